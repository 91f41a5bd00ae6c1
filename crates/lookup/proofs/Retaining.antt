-- What a test keeps of a table's front, item by item.
use Rattle.std.proofs.Common.{◌≡◌, ℕ, ◌+◌, ◌-◌, ◌<◌, ◌≤◌, Bool, true, false, cond, List, [], ◌∷◌, ◌++◌, suc, length, get_or, take, drop, set, sym, ap, ◌∙◌, subst, refl, arith}
use Rattle.std.proofs.lemmas.List.{drop_more, get_or-drop, take_more_set, append_assoc, append-nil}
use Rattle.std.specs.List.Retain.{IsFiltered}

module _ {X P : Type 0} (R : P → X → Bool → P → Type 0) where
  first_kept : (p q : P) (x : X) (xs zs : List X) (b : Bool) → R p x b q → IsFiltered R q xs zs → IsFiltered R p (x ∷ xs) (cond b (x ∷ zs) zs)
  first_kept p q x xs zs true r k = (true ∷ k.0, k.1, ap suc k.2, (q, r, k.3), ap (λ l. x ∷ l) k.4)
  first_kept p q x xs zs false r k = (false ∷ k.0, k.1, ap suc k.2, (q, r, k.3), k.4)

  -- the calls at the n first items from i on, of which the first is at x
  module _ (p q : P) (xs : List X) (i n : ℕ) (x : X) (b : Bool) (more : i < n) (le : n ≤ length xs) (is : x ≡ get_or xs i x) (called : R p x b q) where
    part : take (n - i) (drop i xs) ≡ x ∷ take (n - (i + 1)) (drop (i + 1) xs)
    part =
        let e : n - i ≡ suc (n - (i + 1)) = omega arith in
        ap (λ m. take m (drop i xs)) e ∙ ap (take (suc (n - (i + 1)))) (drop_more xs i x (omega arith)) ∙ ap (λ y. y ∷ take (n - (i + 1)) (drop (i + 1) xs)) (sym is)

    kept_next : (zs : List X) → IsFiltered R q (take (n - (i + 1)) (drop (i + 1) xs)) zs → IsFiltered R p (take (n - i) (drop i xs)) (cond b (x ∷ zs) zs)
    kept_next zs k = subst (λ l. IsFiltered R p l (cond b (x ∷ zs) zs)) (sym part) (first_kept p q x _ zs b called k)

    pub taken : b ≡ true → (zs : List X) → IsFiltered R q (take (n - (i + 1)) (drop (i + 1) xs)) zs → IsFiltered R p (take (n - i) (drop i xs)) (x ∷ zs)
    taken e zs k = subst (λ (a : Bool). IsFiltered R p (take (n - i) (drop i xs)) (cond a (x ∷ zs) zs)) e (kept_next zs k)

    pub left_out : b ≡ false → (zs : List X) → IsFiltered R q (take (n - (i + 1)) (drop (i + 1) xs)) zs → IsFiltered R p (take (n - i) (drop i xs)) zs
    left_out e zs k = subst (λ (a : Bool). IsFiltered R p (take (n - i) (drop i xs)) (cond a (x ∷ zs) zs)) e (kept_next zs k)

-- an item written behind those that are kept
pub kept_front : {X : Type 0} (xs : List X) (left : ℕ) (x : X) (zs : List X) → left < length xs → take (left + 1) (set xs left x) ++ zs ≡ take left xs ++ (x ∷ zs)
kept_front xs left x zs h = ap (λ l. l ++ zs) (take_more_set xs left x h) ∙ append_assoc (take left xs) (x ∷ []) zs

-- an item of what two lists have in common
pub at_drop : {X : Type 0} (xs ys : List X) (i : ℕ) (x : X) → x ≡ get_or xs i x → drop i xs ≡ drop i ys → x ≡ get_or ys i x
at_drop xs ys i x is same =
    is ∙ sym (get_or-drop i xs 0 x ∙ ap (λ j. get_or xs j x) (let e : i + 0 ≡ i = omega arith in e)) ∙ ap (λ l. get_or l 0 x) same
    ∙ (get_or-drop i ys 0 x ∙ ap (λ j. get_or ys j x) (let e : i + 0 ≡ i = omega arith in e))

-- once the n first items are looked at, none is left
pub all_kept : {X P : Type 0} (R : P → X → Bool → P → Type 0) (p q : P) (xs front : List X) (i n : ℕ) → n ≤ i
    → ((zs : List X) → IsFiltered R q (take (n - i) (drop i xs)) zs → IsFiltered R p (take n xs) (front ++ zs)) → IsFiltered R p (take n xs) front
all_kept R p q xs front i n over h =
    let none : n - i ≡ 0 = omega arith in
    subst (IsFiltered R p (take n xs)) (append-nil front)
    (h [] (subst (λ m. IsFiltered R q (take m (drop i xs)) []) (sym none) ([], q, refl, refl, refl)))
