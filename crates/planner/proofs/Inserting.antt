-- A slot takes a place of its own.
use Rattle.std.proofs.Common.{◌≡◌, ℕ, ◌<◌, ◌⊎◌, List, length, get_or, sym, ap, ◌∙◌, subst, inl, inr, arith}
use Rattle.std.specs.List.{insert}
use Rattle.std.proofs.lemmas.List.{get_or_default}
use Rattle.lookup.specs.Sorts.{InPlace}
use Rattle.lookup.proofs.Insertion.{At, before, itself, later, long, which, stays, stands, rising_inserted}
use Rattle.planner.specs.Order.{ranked, Rising, Narrow}
use Rattle.planner.specs.Slots.{Holds, Put}
use Rattle.planner.specs.Order.{Slot}
use Rattle.planner.specs.Shape.{blank}

module _ (xs : List Slot) (new : Slot) (ys : List Slot) (p : InPlace ranked xs new ys) (r : Rising xs) (absent : (k : ℕ) (d : Slot) → k < length xs → (get_or xs k d).key ≡ new.key → ⊥) where
  abbrev zs : List Slot
  zs = insert xs p.at new

  rises : Rising zs
  rises = rising_inserted xs new p.at p.within ranked r p.below p.above

  inside : Put xs new zs
  inside =
      record {
        rising = rises;
        here = (p.at, (stands xs new p.at p.within).0, (stands xs new p.at p.within).1);
        kept = λ x h ne. stays xs new p.at p.within (λ y. y ≡ x) h.0 h.1 h.2;
        only = λ x h. only x h (which xs new p.at p.within h.0 blank h.1);
        long = omega (arith, long xs new p.at p.within);
      }
    where
      old : (x : Slot) (k : ℕ) → k < length xs → get_or xs k blank ≡ x → (x ≡ new) ⊎ (Holds xs x × (x.key ≡ new.key → ⊥))
      old x k l e = inr ((k, l, λ d. get_or_default xs k d blank l ∙ e), λ q. absent k blank l (ap (λ (y : Slot). y.key) e ∙ q))

      only : (x : Slot) (h : Holds zs x) → At xs new p.at p.within h.0 blank → (x ≡ new) ⊎ (Holds xs x × (x.key ≡ new.key → ⊥))
      only x h (before l e) = old x h.0 (omega (arith, p.within)) (sym e ∙ h.2 blank)
      only x h (itself l e) = inl (sym (h.2 blank) ∙ e)
      only x h (later k q g l e) = old x k l (sym e ∙ h.2 blank)

  pub inserted_put : Put xs new ys
  inserted_put = subst (Put xs new) (sym p.is) inside

  pub inserted_narrow : new.key.part < 256 → Narrow xs → Narrow ys
  inserted_narrow b w = subst Narrow (sym p.is) (λ i d l. part i d (which xs new p.at p.within i d l))
    where
      part : (i : ℕ) (d : Slot) → At xs new p.at p.within i d → (get_or zs i d).key.part < 256
      part i d (before l e) = omega (arith, ap (λ (y : Slot). y.key.part) e, w i d (omega (arith, p.within)))
      part i d (itself l e) = omega (arith, ap (λ (y : Slot). y.key.part) e)
      part i d (later k q g l e) = omega (arith, ap (λ (y : Slot). y.key.part) e, w k d l)
