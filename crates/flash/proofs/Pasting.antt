-- Bytes put over a part of others, byte by byte.
use Rattle.std.proofs.Common.{◌≡◌, ℕ, ◌+◌, ◌-◌, ◌<◌, ◌≤◌, ◌⊎◌, List, ◌++◌, length, get_or, take, drop, sym, ap, ◌∙◌, inl, inr, arith, length-append, length-drop}
use native.Mathlib.Decide.{dec_lt}
use lib.Seq.{paste}
use Rattle.std.proofs.lemmas.List.{get_or_append_left, get_or-append_right, get_or-take, get_or-drop, length-take-le, drop-append-le, drop-drop, drop_all}

module _ (d s : List ℕ) (at n : ℕ) (within : at + n ≤ length d) (enough : n ≤ length s) where
  front_long : length (take at d) ≡ at
  front_long = length-take-le at d (omega arith)

  upto_long : length (take at d ++ take n s) ≡ at + n
  upto_long = simp length-append (omega (arith, front_long, length-take-le n s enough))

  pub length_paste : length (paste d at s n) ≡ length d
  length_paste = simp length-append (omega (arith, front_long, length-take-le n s enough, length-drop (at + n) d))

  pub paste_before : (j : ℕ) → j < at → get_or (paste d at s n) j 0 ≡ get_or d j 0
  paste_before j h =
      get_or_append_left (take at d ++ take n s) (drop (at + n) d) 0 j (omega (arith, upto_long))
      ∙ get_or_append_left (take at d) (take n s) 0 j (omega (arith, front_long)) ∙ get_or-take at d j 0 h

  pub paste_within : (j : ℕ) → at ≤ j → j < at + n → get_or (paste d at s n) j 0 ≡ get_or s (j - at) 0
  paste_within j g h =
      get_or_append_left (take at d ++ take n s) (drop (at + n) d) 0 j (omega (arith, upto_long))
      ∙ get_or-append_right (take at d) (take n s) at j 0 front_long g ∙ get_or-take n s (j - at) 0 (omega arith)

  pub paste_past : (j : ℕ) → at + n ≤ j → get_or (paste d at s n) j 0 ≡ get_or d j 0
  paste_past j h =
      let e : (at + n) + (j - (at + n)) ≡ j = omega arith in
      get_or-append_right (take at d ++ take n s) (drop (at + n) d) (at + n) j 0 upto_long h
      ∙ get_or-drop (at + n) d (j - (at + n)) 0 ∙ ap (λ i. get_or d i 0) e

  -- what lies past the part is as it was
  pub drop_paste : (m : ℕ) → at + n ≤ m → drop m (paste d at s n) ≡ drop m d
  drop_paste m h =
      let e : (at + n) + (m - (at + n)) ≡ m = omega arith in
      ap (λ i. drop i (paste d at s n)) (sym e)
      ∙ sym (drop-drop (m - (at + n)) (at + n) (paste d at s n))
      ∙ ap (drop (m - (at + n))) (drop_at_end)
      ∙ drop-drop (m - (at + n)) (at + n) d ∙ ap (λ i. drop i d) e
    where
      drop_at_end : drop (at + n) (paste d at s n) ≡ drop (at + n) d
      drop_at_end =
          drop-append-le (at + n) (take at d ++ take n s) (drop (at + n) d) (omega (arith, upto_long))
          ∙ ap (λ ys. ys ++ drop (at + n) d) (drop_all (at + n) (take at d ++ take n s) (omega (arith, upto_long)))

-- a part that is put in short of its end: each byte is the old one, or the one of the whole part
pub paste_short : (d s : List ℕ) (at n j : ℕ) → at + length s ≤ length d → n ≤ length s
    → (get_or (paste d at s n) j 0 ≡ get_or d j 0) ⊎ (get_or (paste d at s n) j 0 ≡ get_or (paste d at s (length s)) j 0)
paste_short d s at n j within enough =
    elim (dec_lt j at) [
      | yes h ↦ inl (paste_before d s at n (omega arith) enough j h)
      | no g ↦ elim (dec_lt j (at + n)) [
        | yes h ↦ inr (paste_within d s at n (omega arith) enough j (omega arith) h ∙ sym (paste_within d s at (length s) within (omega arith) j (omega arith) (omega arith)))
        | no g2 ↦ inl (paste_past d s at n (omega arith) enough j (omega arith))
      ]
    ]
