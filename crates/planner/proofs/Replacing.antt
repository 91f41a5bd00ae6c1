-- A slot takes the place of the one with its key.
use Rattle.std.proofs.Common.{◌≡◌, ℕ, ◌<◌, List, length, get_or, set, sym, ap, ◌∙◌, inl, inr, arith, length-set}
use native.Mathlib.Decide.{ℕ_discrete}
use Rattle.std.proofs.lemmas.List.{get_or-set_same, get_or-set_other}
use Rattle.planner.specs.Order.{Slot, Rising, Narrow}
use Rattle.planner.specs.Slots.{Put}
use Rattle.planner.specs.Shape.{blank}
use Rattle.planner.proofs.Firsts.{holds_among, among_holds, one_place}

module _ (xs : List Slot) (i : ℕ) (new : Slot) (l : i < length xs) (same : (get_or xs i blank).key ≡ new.key) (r : Rising xs) where
  abbrev ys : List Slot
  ys = set xs i new

  long : length ys ≡ length xs
  long = length-set xs i new

  at : get_or ys i blank ≡ new
  at = get_or-set_same xs i new blank l

  off : (k : ℕ) → (k ≡ i → ⊥) → get_or ys k blank ≡ get_or xs k blank
  off k ne = get_or-set_other xs i k new blank ne

  pub replaced_narrow : new.key.part < 256 → Narrow xs → Narrow ys
  replaced_narrow b f k d h =
      elim (ℕ_discrete k i) [
        | yes e ↦ omega (arith, ap (λ j. (get_or ys j d).key.part) e, ap (λ (x : Slot). x.key.part) (get_or-set_same xs i new d l))
        | no ne ↦ omega (arith, f k d (omega (arith, long)), ap (λ (x : Slot). x.key.part) (get_or-set_other xs i k new d ne))
      ]

  -- a slot at another place has another key
  other : (k : ℕ) → k < length xs → (k ≡ i → ⊥) → (get_or xs k blank).key ≡ new.key → ⊥
  other k h ne e = ne (one_place xs r k i h l (e ∙ sym same))

  pub replaced : Rising ys → Put xs new ys
  replaced rises =
      record {
        rising = rises;
        here = among_holds ys new (i, omega (arith, l, long), at);
        kept = λ x h ne.
            let (k, m, e) = holds_among xs x h in
            among_holds ys x (k, omega (arith, m, long), off k (λ q. ne (ap (λ (y : Slot). y.key) (sym e) ∙ ap (λ j. (get_or xs j blank).key) q ∙ same)) ∙ e);
        only = λ x h.
            let (k, m, e) = holds_among ys x h in
            let n : k < length xs = omega (arith, m, long) in
            elim (ℕ_discrete k i) [
              | yes q ↦ inl (sym e ∙ ap (λ j. get_or ys j blank) q ∙ at)
              | no ne ↦ inr (among_holds xs x (k, n, sym (off k ne) ∙ e), λ q. other k n ne (ap (λ (y : Slot). y.key) (sym (off k ne) ∙ e) ∙ q))
            ];
        long = omega (arith, long);
      }
