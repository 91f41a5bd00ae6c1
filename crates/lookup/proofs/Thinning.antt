-- Of records that rise, those that a test keeps rise.
use Rattle.std.proofs.Common.{◌≡◌, ℕ, zero, suc, ◌<◌, Bool, true, false, List, [], ◌∷◌, length, get_or, sym, refl, ap, subst, arith}
use Rattle.std.specs.List.{items_where_true}
use Rattle.std.specs.List.Retain.{IsFiltered}
use Rattle.lookup.specs.Sorts.{Rises}

module _ {R : Type 0} where
  -- each kept record at some place among all
  abbrev Place : List R → R → ℕ → Type 0
  Place xs x k = (k < length xs) × ((d : R) → get_or xs k d ≡ x)

  one : (bs : List Bool) (xs : List R) (i : ℕ) (d : R) → i < length (items_where_true bs xs) → (k : ℕ) × Place xs (get_or (items_where_true bs xs) i d) k
  one [] xs i d h = absurd (omega arith)
  one (b ∷ bs) [] i d h = absurd (omega arith)
  one (true ∷ bs) (x ∷ xs) zero d h = (0, (omega arith, λ e. refl))
  one (true ∷ bs) (x ∷ xs) (suc i) d h = let (k, p) = one bs xs i d (omega arith) in (suc k, (omega (arith, p.0), p.1))
  one (false ∷ bs) (x ∷ xs) i d h = let (k, p) = one bs xs i d h in (suc k, (omega (arith, p.0), p.1))

  -- and two kept ones in their order
  two : (bs : List Bool) (xs : List R) (i j : ℕ) (d : R) → i < j → j < length (items_where_true bs xs)
      → (k : ℕ) × (l : ℕ) × (k < l) × Place xs (get_or (items_where_true bs xs) i d) k × Place xs (get_or (items_where_true bs xs) j d) l
  two [] xs i j d lt h = absurd (omega arith)
  two (b ∷ bs) [] i j d lt h = absurd (omega arith)
  two (true ∷ bs) (x ∷ xs) i zero d lt h = absurd (omega arith)
  two (true ∷ bs) (x ∷ xs) zero (suc j) d lt h =
      let (l, q) = one bs xs j d (omega arith) in
      (0, suc l, omega arith, (omega arith, λ e. refl), (omega (arith, q.0), q.1))
  two (true ∷ bs) (x ∷ xs) (suc i) (suc j) d lt h =
      let (k, l, less, p, q) = two bs xs i j d (omega arith) (omega arith) in
      (suc k, suc l, omega (arith, less), (omega (arith, p.0), p.1), (omega (arith, q.0), q.1))
  two (false ∷ bs) (x ∷ xs) i j d lt h =
      let (k, l, less, p, q) = two bs xs i j d lt h in
      (suc k, suc l, omega (arith, less), (omega (arith, p.0), p.1), (omega (arith, q.0), q.1))

  rises_kept : (ranked : R → ℕ) (bs : List Bool) (xs : List R) → Rises ranked xs → Rises ranked (items_where_true bs xs)
  rises_kept ranked bs xs rises i j d lt h =
      let (k, l, less, p, q) = two bs xs i j d lt h in
      omega (arith, ap ranked (p.1 d), ap ranked (q.1 d), rises k l d less q.0)

  pub rises_filtered : {P : Type 0} (T : P → R → Bool → P → Type 0) (p : P) (ranked : R → ℕ) (xs ys : List R) → Rises ranked xs → IsFiltered T p xs ys → Rises ranked ys
  rises_filtered T p ranked xs ys rises k = subst (Rises ranked) (sym k.4) (rises_kept ranked k.0 xs rises)
