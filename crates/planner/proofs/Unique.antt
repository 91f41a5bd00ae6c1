-- What the ghost fields of the tables give.
use Rattle.std.proofs.Common.{◌≡◌, ℕ, ◌+◌, ◌<◌, ◌≤◌, eqb, subst, arith}
use mathlib.Core.Logic.{∥∥₁_elim}
use native.Mathlib.Bridge.{le_prop}
use native.Mathlib.Nat.{ℕ_set}
use native.Mathlib.Decide.{dec_lt}
use Rattle.planner.specs.State.{State, Sound, Free, Lowest, in_block, old}
use Rattle.planner.specs.Making.{Making}
use Rattle.planner.specs.Shape.{Keeps, spent_above}
use Rattle.planner.specs.Steps.{state}
use Rattle.planner.specs.declared.head.Phase.{Phase}
use Rattle.planner.specs.declared.head.Phase.TheVariants.{MakingRoom}
use Rattle.planner.specs.declared.tables.Tables.{Tables}
use Rattle.planner.proofs.CopyMaking.{space}
use Rattle.planner.proofs.Tally.{tally_le}

sound_prop : (s : State) → IsProp (Sound s)
sound_prop s a b = λ i.
    record {
      wide = le_prop a.wide b.wide i;
      tall = le_prop a.tall b.tall i;
      room = le_prop a.room b.room i;
      inside = λ k l. le_prop (a.inside k l) (b.inside k l) i;
      fit = λ k l. le_prop (a.fit k l) (b.fit k l) i;
      apart = λ j k l m d e. ℕ_set j k (a.apart j k l m d e) (b.apart j k l m d e) i;
      unlike = λ j k l m e. ℕ_set j k (a.unlike j k l m e) (b.unlike j k l m e) i;
      held = λ k l. le_prop (a.held k l) (b.held k l) i;
      counted = λ k l. le_prop (a.counted k l) (b.counted k l) i;
      order = λ j k l m ne lt. le_prop (a.order j k l m ne lt) (b.order j k l m ne lt) i;
      highest = λ c l. le_prop (a.highest c l) (b.highest c l) i;
      some = le_prop a.some b.some i;
      low = le_prop a.low b.low i;
      within = le_prop a.within b.within i;
      headless = λ h. ℕ_set _ _ (a.headless h) (b.headless h) i;
      written = λ k l e. le_prop (a.written k l e) (b.written k l e) i;
      newest = λ h g. ℕ_set _ _ (a.newest h g) (b.newest h g) i;
    }

-- the tables are sound
pub the_sound : (t : Tables) → Sound (state t)
the_sound t = ∥∥₁_elim t.sound (sound_prop (state t)) (λ w. w)

-- a head with a page left is a block
pub has_head : (s : State) → Sound s → s.used < s.per → s.head < s.blocks
has_head s w l = elim (dec_lt s.head s.blocks) [ yes h ↦ h | no h ↦ absurd (omega (arith, w.headless (omega arith))) ]

module _ (p : Phase) (s : State) (keeps : ∥ Keeps p s ∥₁) (since : ℕ) (is : p ≡ MakingRoom since) where
  the_making : ∥ Making since s × (since ≤ spent_above) ∥₁
  the_making = subst (λ q. ∥ Keeps q s ∥₁) is keeps

  -- while room is made there is a head
  pub making_headed : s.head < s.blocks
  making_headed = ∥∥₁_elim the_making le_prop (λ m. m.0.headed)

  -- each copy uses up one number, and no key is copied twice
  pub making_numbers : s.last + old s since ≤ spent_above + s.count
  making_numbers = ∥∥₁_elim the_making le_prop (λ m. (let a = m.0.spent in let b = m.1 in omega arith))

  -- in a head that holds nothing but copies, no key means no page
  pub making_bare : s.count ≡ 0 → s.used ≡ 0
  making_bare e =
      ∥∥₁_elim the_making (ℕ_set s.used 0)
      (λ m. let h : in_block s s.head ≤ s.count = tally_le (λ k. eqb (s.block k) s.head) s.count in omega (arith, h, m.0.copies))

  -- a full head with no block free never has a key to copy
  pub making_space : (i : ℕ) → Lowest s i → (s.used ≡ s.per → (b : ℕ) → Free s b → ⊥) → s.used < s.per
  making_space i low none = ∥∥₁_elim the_making le_prop (λ m. space since s m.0 i low none)
