-- Records in rising order with one more put between them.
use Rattle.std.proofs.Common.{◌≡◌, ℕ, ◌+◌, ◌-◌, ◌<◌, ◌≤◌, List, length, get_or, ap, ◌∙◌, arith}
use native.Mathlib.Decide.{dec_lt, ℕ_discrete}
use Rattle.std.specs.List.{insert}
use Rattle.std.proofs.lemmas.List.Edits.{length-insert, get_or-insert_below, get_or-insert_at, get_or-insert_above}

module _ {R : Type 0} (xs : List R) (new : R) (at : ℕ) (le : at ≤ length xs) where
  pub long : length (insert xs at new) ≡ length xs + 1
  long = length-insert xs at new le

  -- the record at i: an earlier one, the new one, or a later one
  pub data At (i : ℕ) (d : R) : Type 0 where
    before : i < at → get_or (insert xs at new) i d ≡ get_or xs i d → At i d
    itself : i ≡ at → get_or (insert xs at new) i d ≡ new → At i d
    later : (k : ℕ) → i ≡ k + 1 → at ≤ k → k < length xs → get_or (insert xs at new) i d ≡ get_or xs k d → At i d

  pub which : (i : ℕ) (d : R) → i < length (insert xs at new) → At i d
  which i d h =
      elim (dec_lt i at) [
        | yes l ↦ before l (get_or-insert_below xs at new d i l le)
        | no g ↦ elim (ℕ_discrete i at) [
          | yes e ↦ itself e (ap (λ j. get_or (insert xs at new) j d) e ∙ get_or-insert_at xs at new d le)
          | no ne ↦ past i h (omega arith) ne
        ]
      ]
    where
      past : (i : ℕ) → i < length (insert xs at new) → at ≤ i → (i ≡ at → ⊥) → At i d
      past i h ge ne =
          let e : i ≡ (i - 1) + 1 = omega arith in
          later (i - 1) e (omega arith) (omega (arith, long)) (ap (λ j. get_or (insert xs at new) j d) e ∙ get_or-insert_above xs at new d (i - 1) (omega arith) le)

  -- where an old record stands now
  pub stays : (P : R → Type 0) (i : ℕ) → i < length xs → ((d : R) → P (get_or xs i d)) → (j : ℕ) × (j < length (insert xs at new)) × ((d : R) → P (get_or (insert xs at new) j d))
  stays P i h is =
      elim (dec_lt i at) [
        | yes l ↦ (i, omega (arith, long), λ d. rw (get_or-insert_below xs at new d i l le) (is d))
        | no ge ↦ (i + 1, omega (arith, long), λ d. rw (get_or-insert_above xs at new d i (omega arith) le) (is d))
      ]

  -- and the new one
  pub stands : (at < length (insert xs at new)) × ((d : R) → get_or (insert xs at new) at d ≡ new)
  stands = (omega (arith, long), λ d. get_or-insert_at xs at new d le)

  module _ (rank : R → ℕ) (rising : (i j : ℕ) (d : R) → i < j → j < length xs → rank (get_or xs i d) < rank (get_or xs j d))
      (below : (k : ℕ) (d : R) → k < at → rank (get_or xs k d) < rank new) (above : (d : R) → at < length xs → rank new < rank (get_or xs at d)) where
    after : (k : ℕ) (d : R) → at ≤ k → k < length xs → rank new < rank (get_or xs k d)
    after k d g h =
        elim (dec_lt at k) [
          | yes l ↦ omega (arith, above d (omega arith), rising at k d l h)
          | no ge ↦ (let e : at ≡ k = omega arith in omega (arith, above d (omega arith), ap (λ j. rank (get_or xs j d)) e))
        ]

    rises : (i j : ℕ) (d : R) → i < j → At i d → At j d → rank (get_or (insert xs at new) i d) < rank (get_or (insert xs at new) j d)
    rises i j d lt (before l a) (before h b) = omega (arith, ap rank a, ap rank b, rising i j d lt (omega arith))
    rises i j d lt (before l a) (itself h b) = omega (arith, ap rank a, ap rank b, below i d l)
    rises i j d lt (before l a) (later k e g h b) = omega (arith, ap rank a, ap rank b, below i d l, after k d g h)
    rises i j d lt (itself l a) (before h b) = absurd (omega arith)
    rises i j d lt (itself l a) (itself h b) = absurd (omega arith)
    rises i j d lt (itself l a) (later k e g h b) = omega (arith, ap rank a, ap rank b, after k d g h)
    rises i j d lt (later k e g h a) (before l b) = absurd (omega arith)
    rises i j d lt (later k e g h a) (itself l b) = absurd (omega arith)
    rises i j d lt (later k e g h a) (later l f u v b) = omega (arith, ap rank a, ap rank b, rising k l d (omega arith) v)

    pub rising_inserted : (i j : ℕ) (d : R) → i < j → j < length (insert xs at new) → rank (get_or (insert xs at new) i d) < rank (get_or (insert xs at new) j d)
    rising_inserted i j d lt h = rises i j d lt (which i d (omega arith)) (which j d h)
