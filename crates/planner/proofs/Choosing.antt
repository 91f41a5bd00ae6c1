-- The step that comes next while room is made.
use Rattle.std.proofs.Common.{◌≡◌, ℕ, ◌+◌, ◌^◌, ◌<◌, ◌≤◌, ◌⊎◌, refl, subst, inl, inr, arith}
use Rattle.planner.specs.State.{State, Free, Lowest}
use Rattle.planner.specs.Room.{Room}
use Rattle.planner.specs.Steps.{state, SparesAre, Next, Turn}
use Rattle.planner.specs.declared.free.Spares.{Spares}
use Rattle.planner.specs.declared.free.Spares.TheVariants.{One, More}
use Rattle.planner.specs.declared.steps.Step.{Step}
use Rattle.planner.specs.declared.steps.Step.TheVariants.{Ready, Open, Copy, Spent}
use Rattle.planner.specs.declared.head.Phase.{Phase}
use Rattle.planner.specs.declared.head.Phase.TheVariants.{AtRest, MakingRoom}
use Rattle.planner.specs.declared.tables.Tables.{Tables}
use Rattle.planner.proofs.Unique.{the_sound, has_head, making_headed, making_numbers, making_bare, making_space}

pub making_is : (p : Phase) → (p ≡ AtRest → ⊥) → (m : ℕ) × (p ≡ MakingRoom m)
making_is AtRest h = absurd (h refl)
making_is (MakingRoom m) h = (m, refl)

-- room in a head that is there
pub room_in : (t : Tables) (g : ℕ) → 1 ≤ g → (state t).used + g ≤ (state t).per → ((b : ℕ) × Free (state t) b) ⊎ ((state t).count ≡ 0) → Room (state t) g
room_in t g some l f = record { left = l; headed = has_head (state t) (the_sound t) (omega arith); free = f }

pub room_left : (t : Tables) (g : ℕ) → 1 ≤ g → (state t).used + g ≤ (state t).per → (b : ℕ) × Free (state t) b → Room (state t) g
room_left t g some l f = room_in t g some l (inl f)

module _ (t : Tables) (rest : t.phase ≡ AtRest → ⊥) where
  -- a copy has a number
  pub number_left : t.last + 1 < 2 ^ 32
  number_left = let (m, e) = making_is t.phase rest in omega (arith, making_numbers t.phase (state t) t.spare m e, t.few)

  headed : (state t).head < t.blocks
  headed = let (m, e) = making_is t.phase rest in making_headed t.phase (state t) t.spare m e

  -- and a page
  space_left : (i : ℕ) → Lowest (state t) i → ((state t).used ≡ (state t).per → (b : ℕ) → Free (state t) b → ⊥) → (state t).used < (state t).per
  space_left i low none = let (m, e) = making_is t.phase rest in making_space t.phase (state t) t.spare m e i low none

  copy_next : (p : Phase) → (p ≡ AtRest → ⊥) → (g : ℕ) (r : Step) → Turn (state t) r → (x : ℕ) → ((b : ℕ) → Free (state t) b → b ≡ x)
      → ((state t).used ≡ (state t).per → (b : ℕ) → Free (state t) b → ⊥) → ((state t).count ≡ 0 → Room (state t) g) → (((state t).count ≡ 0 → ⊥) → Room (state t) g → ⊥)
      → Next p (state t) g r
  copy_next p h g Ready turn x one none bare short = bare turn
  copy_next p h g (Open b) turn x one none bare short = absurd turn
  copy_next p h g Spent turn x one none bare short = absurd turn
  copy_next AtRest h g (Copy i f) turn x one none bare short = absurd (h refl)
  copy_next (MakingRoom m) h g (Copy i f) turn x one none bare short = (
    record {
      lowest = turn.0;
      carries = turn.1;
      one = (x, one);
      none = none;
      headed = headed;
      space = space_left i turn.0 none;
      number = number_left;
    },
    short (λ e. let l = turn.0.real in omega arith),
  )

  -- where there is no key, the head is empty
  bare_room : (g : ℕ) → g ≤ 4 → (state t).count ≡ 0 → Room (state t) g
  bare_room g l e =
      let (m, is) = making_is t.phase rest in
      record {
        left = omega (arith, making_bare t.phase (state t) t.spare m is e, (the_sound t).wide);
        headed = headed;
        free = inr e;
      }

  -- no block is free
  pub next_none : (g : ℕ) → g ≤ 4 → (r : Step) → Turn (state t) r → ((b : ℕ) → Free (state t) b → ⊥) → Next t.phase (state t) g r
  next_none g l r turn none =
      copy_next t.phase rest g r turn 0 (λ b f. absurd (none b f)) (λ e. none) (bare_room g l)
      (λ some room. elim room.free [ inl f ↦ none f.0 f.1 | inr e ↦ some e ])

  -- one block is free, and the head has too few pages left, but one
  pub next_one : (g : ℕ) → g ≤ 4 → (r : Step) → Turn (state t) r → (x : ℕ) → ((b : ℕ) → Free (state t) b → b ≡ x) → ((state t).used ≡ (state t).per → ⊥)
      → ((state t).used + g ≤ (state t).per → ⊥) → Next t.phase (state t) g r
  next_one g l r turn x one part short =
      copy_next t.phase rest g r turn x one (λ e b f. part e) (bare_room g l) (λ some room. short room.left)

-- a block is free, of one or more
pub some_spare : (s : State) (p : Spares) → SparesAre s p → ((b : ℕ) × (p ≡ One b)) ⊎ ((b : ℕ) × (p ≡ More b)) → (b : ℕ) × Free s b
some_spare s p a (inl h) = (h.0, (subst (SparesAre s) h.1 a).0)
some_spare s p a (inr h) = (h.0, (subst (SparesAre s) h.1 a).0)
