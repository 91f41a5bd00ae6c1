-- What a table that takes a slot means for the keys.
use Rattle.std.proofs.Common.{◌≡◌, ℕ, ◌<◌, List, length, get_or, set, Ok, Err, Result, inl, inr, sym, refl, ap, ◌∙◌, subst}
use Rattle.lookup.specs.Found.{Absent}
use Rattle.lookup.specs.Sorts as sorts
use Rattle.lookup.specs.Sorts.{RanksAt}
use Rattle.lookup.specs.declared.sorted.Unplaced.{Unplaced}
use Rattle.lookup.specs.declared.sorted.Unplaced.TheVariants.{Taken, Full}
use Rattle.lookup.proofs.Putting.{rises_set}
use Rattle.std.proofs.lemmas.List.{get_or_default}
use Rattle.object.specs.Rank.{key_rank}
use Rattle.planner.specs.Order.{Slot, ranked, Rising, Narrow}
use Rattle.planner.specs.Slots.{listed, Puts}
use Rattle.planner.specs.declared.slot.Place.{Place}
use Rattle.planner.specs.declared.slots.Slots.{Slots}
use Rattle.planner.specs.Shape.{blank}
use Rattle.planner.proofs.Firsts.{the_rising, the_narrow, one_rank}
use Rattle.planner.proofs.Replacing.{replaced, replaced_narrow}
use Rattle.planner.proofs.Inserting.{inserted_put, inserted_narrow}

module _ (xs : List Slot) (new : Slot) (rises : Rising xs) (narrow : Narrow xs) (byte : new.key.part < 256) where
  -- the slot that was replaced has the key
  same : (ys : List Slot) (p : sorts.Replaces ranked xs new ys) → (get_or xs p.at blank).key ≡ new.key
  same ys p = one_rank (get_or xs p.at blank) new (narrow p.at blank p.within) byte (p.one blank)

  absent : Absent ranked xs (ranked new) (length xs) → (k : ℕ) (d : Slot) → k < length xs → (get_or xs k d).key ≡ new.key → ⊥
  absent none k d l e = none k d l (ap key_rank e)

  pub puts : (n : ℕ) → n ≡ 212 → (r : Result (Unit {0}) Unplaced) (ys : List Slot) → sorts.Puts ranked n xs new r ys → Puts xs new r ys
  puts n is (Ok u) ys (inl p) =
      subst (λ zs. Puts xs new (Ok u) zs) (sym p.is) (replaced xs p.at new p.within (same ys p) rises (rises_set ranked xs p.at new p.within p.one rises))
  puts n is (Ok u) ys (inr p) = inserted_put xs new ys p.2 rises (absent p.1)
  puts n is (Err Taken) ys p = p
  puts n is (Err Full) ys p = (p.2, p.0 ∙ is, λ x h e. absent p.1 h.0 blank h.1 (ap (λ (y : Slot). y.key) (h.2 blank) ∙ e))

  pub puts_narrow : (n : ℕ) (r : Result (Unit {0}) Unplaced) (ys : List Slot) → sorts.Puts ranked n xs new r ys → Narrow ys
  puts_narrow n (Ok u) ys (inl p) = subst Narrow (sym p.is) (replaced_narrow xs p.at new p.within (same ys p) rises byte narrow)
  puts_narrow n (Ok u) ys (inr p) = inserted_narrow xs new ys p.2 rises (absent p.1) byte narrow
  puts_narrow n (Err Taken) ys p = absurd p
  puts_narrow n (Err Full) ys p = subst Narrow (sym p.2) narrow

-- the key that stands at i is told by another page; zs are the slots as they were read
module _ (s : Slots) (zs : List Slot) (is : zs ≡ listed s) (i : ℕ) (l : i < length (listed s)) (p : Place) (n : ℕ) where
  abbrev moved : List Slot → Slot
  moved xs = record { key = (get_or xs i blank).key; place = p; number = n }

  same_key : (d : Slot) → (get_or (listed s) i d).key ≡ (moved zs).key
  same_key d = ap (λ (x : Slot). x.key) (get_or_default (listed s) i d blank l) ∙ ap (λ (xs : List Slot). (get_or xs i blank).key) (sym is)

  pub ranks_at : RanksAt ranked (listed s) i (moved zs)
  ranks_at = (l, λ d. ap key_rank (same_key d))

  pub moves : (ys : List Slot) → ys ≡ set (listed s) i (moved zs) → ys ≡ set (listed s) i (moved (listed s))
  moves ys e = e ∙ ap (λ (xs : List Slot). set (listed s) i (moved xs)) is

  pub moves_narrow : (ys : List Slot) → ys ≡ set (listed s) i (moved zs) → Narrow ys
  moves_narrow ys e =
      subst Narrow (sym (moves ys e)) (replaced_narrow (listed s) i (moved (listed s)) l refl (the_rising s) (the_narrow s i blank l) (the_narrow s))
