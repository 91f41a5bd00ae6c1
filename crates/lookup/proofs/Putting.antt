-- A record put in place of the one with its rank, or else between the others.
use Rattle.std.proofs.Common.{◌≡◌, ℕ, ◌<◌, List, length, get_or, set, sym, ap, ◌∙◌, Ok, Err, Result, inr, arith}
use native.Mathlib.Decide.{ℕ_discrete}
use Rattle.std.proofs.lemmas.List.{get_or-set_same, get_or-set_other, length-set}
use Rattle.lookup.specs.declared.sorted.Unplaced.{Unplaced}
use Rattle.lookup.specs.declared.sorted.Unplaced.TheVariants.{Taken, Full}
use Rattle.lookup.specs.Found.{Absent}
use Rattle.lookup.specs.Sorts.{Rises, Enters, Puts}

module _ {R : Type 0} (ranked : R → ℕ) (xs : List R) (at : ℕ) (new : R) (within : at < length xs) (one : (d : R) → ranked (get_or xs at d) ≡ ranked new) where
  ranks_stay : (k : ℕ) (d : R) → ranked (get_or (set xs at new) k d) ≡ ranked (get_or xs k d)
  ranks_stay k d =
      elim (ℕ_discrete k at) [
        | yes e ↦ ap (λ i. ranked (get_or (set xs at new) i d)) e ∙ ap ranked (get_or-set_same xs at new d within) ∙ sym (one d) ∙ ap (λ i. ranked (get_or xs i d)) (sym e)
        | no ne ↦ ap ranked (get_or-set_other xs at k new d ne)
      ]

  pub rises_set : Rises ranked xs → Rises ranked (set xs at new)
  rises_set rises i j d lt h = omega (arith, ranks_stay i d, ranks_stay j d, rises i j d lt (omega (arith, length-set xs at new)))

-- what became of a record that was to be inserted, where none has its rank
pub entered : {R : Type 0} (ranked : R → ℕ) (n : ℕ) (xs : List R) (new : R) (r : Result (Unit {0}) Unplaced) (ys : List R)
    → Absent ranked xs (ranked new) (length xs) → Enters ranked n xs new r ys → Puts ranked n xs new r ys
entered ranked n xs new (Ok u) ys none e = inr (e.0, none, e.1)
entered ranked n xs new (Err Taken) ys none e = none e.2.0 new e.2.1 (e.2.2 new)
entered ranked n xs new (Err Full) ys none e = (e.0, none, e.1)
