-- A test that came out true, and one that came out false.
use Rattle.std.proofs.Common.{ℕ, ◌<◌, Bool, true, false, Decides, List, length, get_or, MatchBool, refl, arith}
use Rattle.std.specs.List.{AllWithin, HoldsAt}
use Rattle.std.proofs.lemmas.Bool.{false≢true}

pub it_is : (P : Type 0) → P → Decides true P
it_is P p = (λ e. p, λ q. refl)

pub it_is_not : (P : Type 0) → (P → ⊥) → Decides false P
it_is_not P n = (λ e. absurd (false≢true e), λ p. absurd (n p))

-- a test that looked at each element until one passed
pub it_is_some : {X : Type 0} (P : X → Type 0) (xs : List X) (r : Bool) (d : X)
    → MatchBool r ((k : ℕ) × (k < length xs) × HoldsAt P xs k) (AllWithin (λ x. P x → ⊥) xs 0 (length xs)) → Decides r ((k : ℕ) × (k < length xs) × ((e : X) → P (get_or xs k e)))
it_is_some P xs true d h = it_is _ h
it_is_some P xs false d h = it_is_not _ (λ w. h w.0 d (omega arith) w.1 (w.2 d))
