-- The end of a part turned to its front puts that record between the others.
use Rattle.std.proofs.Common.{◌≡◌, ℕ, ◌+◌, ◌-◌, ◌<◌, ◌≤◌, List, [], ◌∷◌, ◌++◌, length, get_or, take, drop, set, sym, ap, ◌∙◌, arith, length-drop, length-set, length-take}
use borrow.Rule.Slice.PartMut.{put_mid}
use Rattle.std.specs.List.{insert}
use Rattle.std.proofs.lemmas.List.{take_more, take_at, drop_at, take-take, take-set-le, get_or-set_same, get_or-drop, drop-take, length-take-le, length_push}
use Rattle.std.proofs.lemmas.Slice.{take-put_mid}

module _ {T : Type 0} (xs : List T) (len at : ℕ) (x : T) (room : len < length xs) (le : at ≤ len) where
  abbrev ys : List T
  ys = set xs len x

  abbrev i : ℕ
  i = len - at

  ys_long : length ys ≡ length xs
  ys_long = length-set xs len x

  -- the part, its last record apart
  part_is : (n : ℕ) → n ≡ (len - at) + 1 → take n (drop at (set xs len x)) ≡ take (len - at) (drop at (set xs len x)) ++ x ∷ []
  part_is n e =
      ap (λ m. take m (drop at ys)) e ∙ take_more (drop at ys) i x (simp length-drop (omega (arith, ys_long)))
      ∙ ap (λ y. take i (drop at ys) ++ y ∷ []) (get_or-drop at ys i x ∙ ap (λ j. get_or ys j x) (let j : at + i ≡ len = omega arith in j) ∙ get_or-set_same xs len x x room)

  front_long : length (take i (drop at ys)) ≡ i
  front_long = length-take-le i (drop at ys) (simp length-drop (omega (arith, ys_long)))

  -- what the part's front is of the old table
  front_is : take i (drop at ys) ≡ drop at (take len xs)
  front_is = sym (drop-take at i ys) ∙ ap (λ m. drop at (take m ys)) (let m : at + i ≡ len = omega arith in m) ∙ ap (drop at) (take-set-le len xs len x (omega arith))

  pub turned : (n : ℕ) (part : List T) → n ≡ (len - at) + 1 → part ≡ take n (drop at (set xs len x))
      → drop (length part - 1) part ++ take (length part - 1) part ≡ x ∷ drop at (take len xs)
  turned n part e p =
      let whole : part ≡ take i (drop at ys) ++ x ∷ [] = p ∙ part_is n e in
      let long : length part - 1 ≡ i = omega (arith, ap length whole, length_push (take i (drop at ys)) x, front_long) in
      ap (λ m. drop m part ++ take m part) long ∙ ap (λ q. drop i q ++ take i q) whole
      ∙ ap (λ q. q ++ take i (take i (drop at ys) ++ x ∷ [])) (drop_at (take i (drop at ys)) (x ∷ []) i front_long)
      ∙ ap (λ q. x ∷ q) (take_at (take i (drop at ys)) (x ∷ []) i front_long ∙ front_is)

  turned_long : (turn : List T) → turn ≡ x ∷ drop at (take len xs) → length turn ≡ (len - at) + 1
  turned_long turn e = ap length e ∙ (let l : length (drop at (take len xs)) ≡ len - at = simp (length-drop, length-take) (omega arith) in omega (arith, l))

  pub put_between : (n : ℕ) (turn : List T) → n ≡ (len - at) + 1 → turn ≡ x ∷ drop at (take len xs)
      → take (len + 1) (put_mid at n (set xs len x) turn) ≡ insert (take len xs) at x
  put_between n turn e t =
      take-put_mid at n ys turn (len + 1) (omega (arith, turned_long turn t)) (omega (arith, ys_long))
      ∙ ap (λ q. q ++ turn) (take-set-le at xs len x le ∙ sym (take-take at len xs le)) ∙ ap (λ q. take at (take len xs) ++ q) t
