-- A buffer that takes in bytes as far as it has room.
use Rattle.std.proofs.Common.{◌≡◌, ℕ, ◌+◌, ◌-◌, ◌<◌, ◌≤◌, min, List, ◌++◌, length, get_or, take, drop, sym, ap, ◌∙◌, arith, length-append, length-drop, length-take}
use native.Mathlib.Decide.{dec_lt}
use Rattle.std.proofs.lemmas.List.{take_all, drop_all, append-nil, length-take-le, take-take, get_or_append_left, get_or-append_right, get_or-take, get_or-drop, get_or_past}
use Rattle.flash.specs.Chip.{filled}

pub length_filled : (before bytes : List ℕ) → length (filled before bytes) ≡ length before
length_filled before bytes = simp (length-append, length-take, length-drop) (omega arith)

-- a buffer of as many bytes holds just these
pub filled_whole : (before bytes : List ℕ) → length before ≡ length bytes → filled before bytes ≡ bytes
filled_whole before bytes e =
    ap (λ ys. take (length before) bytes ++ ys) (drop_all (length bytes) before (omega arith)) ∙ append-nil (take (length before) bytes) ∙ take_all (length before) bytes (omega arith)

-- the part that there is room for, and what lies past it
pub filled_part : (before bytes : List ℕ) (m n : ℕ) → m ≤ length bytes → n ≡ min m (length before) → take n bytes ++ drop n before ≡ filled before (take m bytes)
filled_part before bytes m n long e =
    let wide : length (take m bytes) ≡ m = length-take-le m bytes long in
    elim (dec_lt (length before) m) [
      | yes h ↦ ap (λ i. take i bytes ++ drop i before) (let en : n ≡ length before = omega arith in en)
          ∙ ap (λ ys. take (length before) bytes ++ ys) (drop_all (length before) before (omega arith) ∙ sym (drop_all (length (take m bytes)) before (omega arith)))
          ∙ ap (λ ys. ys ++ drop (length (take m bytes)) before) (sym (take-take (length before) m bytes (omega arith)))
      | no g ↦ ap (λ i. take i bytes ++ drop i before) (let en : n ≡ m = omega arith in en)
          ∙ ap (λ i. take m bytes ++ drop i before) (sym wide)
          ∙ ap (λ ys. ys ++ drop (length (take m bytes)) before) (sym (take_all (length before) (take m bytes) (omega arith)))
    ]

-- each byte of a buffer: the one taken in, as far as there are any, and else the old one
pub filled_front : (before bytes : List ℕ) (k : ℕ) → k < length before → k < length bytes → get_or (filled before bytes) k 0 ≡ get_or bytes k 0
filled_front before bytes k h l =
    get_or_append_left (take (length before) bytes) (drop (length bytes) before) 0 k (simp length-take (omega arith)) ∙ get_or-take (length before) bytes k 0 h

pub filled_rest : (before bytes : List ℕ) (k : ℕ) → length bytes ≤ k → get_or (filled before bytes) k 0 ≡ get_or before k 0
filled_rest before bytes k g =
    elim (dec_lt k (length before)) [
      | yes h ↦ (let e : length bytes + (k - length bytes) ≡ k = omega arith in
          get_or-append_right (take (length before) bytes) (drop (length bytes) before) (length bytes) k 0 (simp length-take (omega arith)) g
          ∙ get_or-drop (length bytes) before (k - length bytes) 0 ∙ ap (λ i. get_or before i 0) e)
      | no past ↦ get_or_past (filled before bytes) k 0 (omega (arith, length_filled before bytes)) ∙ sym (get_or_past before k 0 (omega arith))
    ]
