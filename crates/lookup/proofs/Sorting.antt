-- A record put after those that lead it.
use Rattle.std.proofs.Common.{◌≡◌, ℕ, ◌-◌, ◌<◌, ◌≤◌, List, length, get_or, take, sym, ap, ◌∙◌, subst, inl, inr, Ok, Err, Result, arith}
use Rattle.std.proofs.lemmas.List.{length-take-le, get_or-take}
use Rattle.lookup.specs.declared.sorted.Unplaced.{Unplaced}
use Rattle.lookup.specs.declared.sorted.Unplaced.TheVariants.{Taken, Full}
use Rattle.lookup.specs.Inserts.{Inserts, Leads}
use Rattle.lookup.specs.Sorts.{Sorts}

module _ {R : Type 0} (ranked : R → ℕ) (xs : List R) (len at rank : ℕ) (new : R) (is : rank ≡ ranked new) (room : len < length xs)
    (leads : Leads ranked (take (len - 0) xs) rank at) where
  led : Leads ranked (take len xs) (ranked new) at
  led = subst (λ n. Leads ranked (take n xs) (ranked new) at) (let e : len - 0 ≡ len = omega arith in e) (subst (λ r. Leads ranked (take (len - 0) xs) r at) is leads)

  long : length (take len xs) ≡ len
  long = length-take-le len xs (omega arith)

  pub sorted_in : (r : Result (Unit {0}) Unplaced) (ys : List R) → ((d : R) → at < len → ranked (get_or xs at d) ≡ ranked new → ⊥) → Inserts xs len at new r ys → Sorts ranked xs len new r ys
  sorted_in (Ok u) ys apart ins =
      (room, ins.2, record { at = at; within = led.within; is = ins.3; below = led.below; above = above })
    where
      less : (a b : ℕ) → a ≤ b → (b ≡ a → ⊥) → a < b
      less a b le ne = omega arith

      above : (d : R) → at < length (take len xs) → ranked new < ranked (get_or (take len xs) at d)
      above d h =
          let l : at < len = omega (arith, long) in
          less (ranked new) (ranked (get_or (take len xs) at d)) (led.next d h) (λ e. apart d l (ap ranked (sym (get_or-take len xs at d l)) ∙ e))
  sorted_in (Err Taken) ys apart ins = absurd ins
  sorted_in (Err Full) ys apart ins = elim ins.0 [ inl full ↦ absurd (omega arith) | inr past ↦ absurd (omega (arith, led.within, long)) ]
