-- Bytes put one after another into a page.
use Rattle.std.proofs.Common.{◌≡◌, ℕ, ◌+◌, ◌-◌, ◌≤◌, List, [], ◌++◌, length, take, drop, sym, ap, ◌∙◌, ap₂, append_assoc, arith, length-append, take-append-drop}
use Rattle.std.proofs.lemmas.List.{take_at, drop_at, drop-drop, length-take-le}
use Rattle.page.specs.Pasted.{pasted}

-- two puts, the second where the first ends, are one
pub pasted_more : (p : List ℕ) (at m : ℕ) (xs ys : List ℕ) → at + length xs ≤ length p → m ≡ at + length xs → pasted (pasted p at xs) m ys ≡ pasted p at (xs ++ ys)
unfolding pasted
pasted_more p at m xs ys l e =
    let front = take at p ++ xs in
    let n = at + length xs in
    let rest = drop n p in
    let k = length ys in
    let whole : pasted p at xs ≡ front ++ rest = sym (append_assoc (take at p) xs rest) in
    let long : length front ≡ m = length-append (take at p) xs ∙ ap (λ j. j + length xs) (length-take-le at p (omega arith)) ∙ sym e in
    let first : take m (pasted p at xs) ≡ front = ap (take m) whole ∙ take_at front rest m long in
    let last : drop (m + k) (pasted p at xs) ≡ drop (n + k) p =
    ap (drop (m + k)) whole ∙ sym (drop-drop k m (front ++ rest)) ∙ ap (drop k) (drop_at front rest m long) ∙ drop-drop k n p
    in
    let joined : n + k ≡ at + length (xs ++ ys) = omega (arith, length-append xs ys) in
    let left : pasted (pasted p at xs) m ys ≡ front ++ (ys ++ drop (n + k) p) = ap₂ (λ (a b : List ℕ). a ++ (ys ++ b)) first last in
    left
    ∙ append_assoc (take at p) xs (ys ++ drop (n + k) p)
    ∙ ap (λ (t : List ℕ). take at p ++ t) (sym (append_assoc xs ys (drop (n + k) p)))
    ∙ ap (λ j. take at p ++ ((xs ++ ys) ++ drop j p)) joined

-- nothing put leaves the page as it was
pub pasted_none : (p : List ℕ) (at : ℕ) → pasted p at [] ≡ p
unfolding pasted
pasted_none p at =
    let e : at + 0 ≡ at = omega arith in
    ap (λ j. take at p ++ drop j p) e ∙ take-append-drop at p

-- what `copy_from_slice` leaves
pub pasted_part : (p : List ℕ) (at : ℕ) (xs ys : List ℕ) → ys ≡ xs → take at p ++ (ys ++ drop ((at + length xs) - at) (drop at p)) ≡ pasted p at xs
unfolding pasted
pasted_part p at xs ys e =
    let k : (at + length xs) - at ≡ length xs = omega arith in
    ap₂ (λ (a : List ℕ) (j : ℕ). take at p ++ (a ++ drop j (drop at p))) e k ∙ ap (λ (t : List ℕ). take at p ++ (xs ++ t)) (drop-drop (length xs) at p)
