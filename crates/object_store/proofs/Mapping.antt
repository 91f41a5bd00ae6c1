-- A table seen through another: its records may say more than the key and the object.
use Rattle.std.proofs.Common.{◌≡◌, Bool, true, false, cond, ltb, List, [], ◌∷◌, map, filter, sym, refl, ap, ◌∙◌, ap₂}
use Rattle.object.specs.Rank.{key_rank}
use Rattle.object.specs.declared.key.Key.{Key}
use Rattle.object_store.specs.Tables.{same_key, put_in}

module _ {R S : Type 0} (key : R → Key) (seen : S → Key) (f : R → S) (same : (r : R) → seen (f r) ≡ key r) where
  pub map_put : (ys : List R) (x : R) → map f (put_in key ys x) ≡ put_in seen (map f ys) (f x)
  map_put [] x = refl
  map_put (y ∷ ys) x =
      by (ltb (key_rank (key y)) (key_rank (key x))) (same_key (key y) (key x)) (map_put ys x)
      ∙ ap₂ (λ (b s : Bool). cond b (f y ∷ put_in seen (map f ys) (f x)) (cond s (f x ∷ map f ys) (f x ∷ (f y ∷ map f ys))))
      (sym (ap₂ (λ (j k : Key). ltb (key_rank j) (key_rank k)) (same y) (same x))) (sym (ap₂ same_key (same y) (same x)))
    where
      by : (b s : Bool) → map f (put_in key ys x) ≡ put_in seen (map f ys) (f x)
          → map f (cond b (y ∷ put_in key ys x) (cond s (x ∷ ys) (x ∷ (y ∷ ys)))) ≡ cond b (f y ∷ put_in seen (map f ys) (f x)) (cond s (f x ∷ map f ys) (f x ∷ (f y ∷ map f ys)))
      by true s ih = ap (λ (zs : List S). f y ∷ zs) ih
      by false true ih = refl
      by false false ih = refl

  pub map_kept : (q : Key → Bool) (ys : List R) → map f (filter (λ (r : R). q (key r)) ys) ≡ filter (λ (s : S). q (seen s)) (map f ys)
  map_kept q [] = refl
  map_kept q (y ∷ ys) =
      by (q (key y)) (map_kept q ys)
      ∙ ap (λ (b : Bool). cond b (f y ∷ filter (λ (s : S). q (seen s)) (map f ys)) (filter (λ (s : S). q (seen s)) (map f ys))) (sym (ap q (same y)))
    where
      by : (b : Bool) → map f (filter (λ (r : R). q (key r)) ys) ≡ filter (λ (s : S). q (seen s)) (map f ys)
          → map f (cond b (y ∷ filter (λ (r : R). q (key r)) ys) (filter (λ (r : R). q (key r)) ys))
          ≡ cond b (f y ∷ filter (λ (s : S). q (seen s)) (map f ys)) (filter (λ (s : S). q (seen s)) (map f ys))
      by true ih = ap (λ (zs : List S). f y ∷ zs) ih
      by false ih = ih
