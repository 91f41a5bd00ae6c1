-- A free block is found by looking, so that knowing of one is having one.
use Rattle.std.proofs.Common.{◌≡◌, ℕ, zero, suc, ◌<◌, ◌≤◌, ◌⊎◌, ◌≢◌, Option, Some, None, MatchOption, sym, ◌∙◌, subst, inl, inr, arith}
use mathlib.Core.Logic.{∥∥₁_elim}
use native.Mathlib.Decide.{ℕ_discrete, dec_lt}
use Rattle.planner.specs.State.{State, Free}
use Rattle.planner.specs.Shape.{Keeps}
use Rattle.planner.specs.declared.head.Phase.{Phase}
use Rattle.planner.specs.declared.head.Phase.TheVariants.{AtRest}

is_free : (s : State) (b : ℕ) → Free s b ⊎ (Free s b → ⊥)
is_free s b =
    elim (dec_lt b s.blocks) [
      | no h ↦ inr (λ f. h f.real)
      | yes real ↦ elim (dec_lt (s.high b) s.floor) [
        | no h ↦ inr (λ f. h f.below)
        | yes below ↦ elim (ℕ_discrete b s.head) [ yes e ↦ inr (λ f. f.other e) | no ne ↦ inl (record { real = real; below = below; other = ne }) ]
      ]
    ]

look : (s : State) (n : ℕ) → ((b : ℕ) × Free s b) ⊎ ((b : ℕ) → b < n → Free s b → ⊥)
look s zero = inr (λ b l. absurd (omega arith))
look s (suc n) =
    elim (is_free s n) [
      | inl f ↦ inl (n, f)
      | inr none ↦ elim (look s n) [
        | inl f ↦ inl f
        | inr rest ↦ inr (λ b l. elim (ℕ_discrete b n) [ yes e ↦ subst (λ c. Free s c → ⊥) (sym e) none | no ne ↦ rest b (omega arith) ])
      ]
    ]

pub some_free : (s : State) → ∥ ((b : ℕ) × Free s b) ∥₁ → (b : ℕ) × Free s b
some_free s h = elim (look s s.blocks) [ inl f ↦ f | inr none ↦ absurd (∥∥₁_elim h (λ a. absurd a) (λ f. none f.0 f.1.real f.1)) ]

-- at rest a block is free
pub rest_free : (p : Phase) (s : State) → ∥ Keeps p s ∥₁ → p ≡ AtRest → (b : ℕ) × Free s b
rest_free p s k e = some_free s (subst (λ q. ∥ Keeps q s ∥₁) e k)

-- a block that is free from the head on, or else from the first on
pub either_free : (s : State) (h : ℕ) → h ≡ s.head → (o r : Option ℕ) → MatchOption o ((c : ℕ) → h ≤ c → Free s c → c ≡ h) (λ b. Free s b × (b ≢ h))
    → (P : Type 0) → (P → MatchOption r ((c : ℕ) → 0 ≤ c → Free s c → c ≡ h) (λ b. Free s b × (b ≢ h))) → MatchOption o P (λ b. r ≡ Some b) → MatchOption r ((c : ℕ) → Free s c → ⊥) (λ b. Free s b)
either_free s h is (Some b) r f P w e = subst (λ q. MatchOption q ((c : ℕ) → Free s c → ⊥) (λ c. Free s c)) (sym e) f.0
either_free s h is None r f P w e = by r (w e)
  where
    by : (r : Option ℕ) → MatchOption r ((c : ℕ) → 0 ≤ c → Free s c → c ≡ h) (λ b. Free s b × (b ≢ h)) → MatchOption r ((c : ℕ) → Free s c → ⊥) (λ b. Free s b)
    by None q = λ c g. g.other (q c (omega arith) g ∙ is)
    by (Some b) q = q.0
