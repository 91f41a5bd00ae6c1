-- Which keys a table has once a record is put in, or records are left out.
use Rattle.std.proofs.Common.{◌≡◌, ℕ, ◌+◌, Bool, true, false, cond, ◌&&◌, ◌||◌, ltb, List, [], ◌∷◌, map, filter, sym, refl, ap, ◌∙◌, ap₂, arith}
use Rattle.std.proofs.Math.Bool.{or_assoc, or_comm}
use Rattle.std.proofs.lemmas.Bool.{true≢false, ltb-false, and_right}
use Rattle.object.specs.Rank.{key_rank}
use Rattle.object.specs.declared.key.Key.{Key}
use Rattle.object_store.specs.Tables.{same_key, has_key, put_in, RisingFrom}
use Rattle.object_store.proofs.Keys.{same_file, same_with, put_front, rising_kept}

or_twice : (a b : Bool) → (a || b) ≡ ((a || b) || a)
or_twice true b = refl
or_twice false true = refl
or_twice false false = refl

module _ {R : Type 0} (key : R → Key) where
  abbrev has : List R → Key → Bool
  has ys k = has_key (map key ys) k

  pub has_put : (ys : List R) (x : R) (k : Key) → has_key (map key (put_in key ys x)) k ≡ (has_key (map key ys) k || same_key (key x) k)
  has_put [] x k = or_comm (same_key (key x) k) false
  has_put (y ∷ ys) x k = by (ltb (key_rank (key y)) (key_rank (key x))) (same_key (key y) (key x)) refl (has_put ys x k)
    where
      by : (b s : Bool) → same_key (key y) (key x) ≡ s → has (put_in key ys x) k ≡ (has ys k || same_key (key x) k)
          → has (cond b (y ∷ put_in key ys x) (cond s (x ∷ ys) (x ∷ (y ∷ ys)))) k ≡ ((same_key (key y) k || has ys k) || same_key (key x) k)
      by true s e more = ap (λ (b : Bool). same_key (key y) k || b) more ∙ sym (or_assoc (same_key (key y) k) (has ys k) (same_key (key x) k))
      by false true e more =
          or_twice (same_key (key x) k) (has ys k) ∙ ap (λ (b : Bool). (b || has ys k) || same_key (key x) k) (sym (same_with (key y) (key x) k e))
      by false false e more = or_comm (same_key (key x) k) (same_key (key y) k || has ys k)

  module _ (q : ℕ → Bool) where
    abbrev left : List R → List R
    left ys = filter (λ (r : R). q (key r).file) ys

    pub has_kept : (ys : List R) (k : Key) → has_key (map key (filter (λ (r : R). q (key r).file) ys)) k ≡ (q k.file && has_key (map key ys) k)
    has_kept [] k = sym (and_right (q k.file) false refl)
    has_kept (y ∷ ys) k = by (q (key y).file) (same_key (key y) k) (q k.file) refl (λ e. ap q (same_file (key y) k e)) (has_kept ys k)
      where
        by : (b s t : Bool) → same_key (key y) k ≡ s → (same_key (key y) k ≡ true → b ≡ t) → has (left ys) k ≡ (t && has ys k)
            → has (cond b (y ∷ left ys) (left ys)) k ≡ (t && (s || has ys k))
        by true true t e f ih = ap (λ (a : Bool). a || has (left ys) k) e ∙ ap (λ (a : Bool). a && true) (f e)
        by true false t e f ih = ap (λ (a : Bool). a || has (left ys) k) e ∙ ih
        by false true t e f ih = ih ∙ ap (λ (a : Bool). a && has ys k) (sym (f e)) ∙ ap (λ (a : Bool). a && true) (f e)
        by false false t e f ih = ih

    -- leaving out after putting in is putting in what stays after leaving out
    pub kept_put : (r : ℕ) (ys : List R) (x : R) → RisingFrom r (map key ys)
        → filter (λ (y : R). q (key y).file) (put_in key ys x) ≡ cond (q (key x).file) (put_in key (filter (λ (y : R). q (key y).file) ys) x) (filter (λ (y : R). q (key y).file) ys)
    kept_put r [] x h = refl
    kept_put r (y ∷ ys) x h =
        by (ltb (key_rank (key y)) (key_rank (key x))) (same_key (key y) (key x)) (q (key y).file) (q (key x).file) refl refl refl refl (λ e. ap q (same_file (key y) (key x) e)) (kept_put (key_rank (key y) + 1) ys x h.2)
      where
        -- a record at the front of what is left
        placed : (b s : Bool) → ltb (key_rank (key y)) (key_rank (key x)) ≡ b → same_key (key y) (key x) ≡ s
            → cond b (y ∷ put_in key (left ys) x) (cond s (x ∷ left ys) (x ∷ (y ∷ left ys))) ≡ put_in key (y ∷ left ys) x
        placed b s t e = ap₂ (λ (b s : Bool). cond b (y ∷ put_in key (left ys) x) (cond s (x ∷ left ys) (x ∷ (y ∷ left ys)))) (sym t) (sym e)

        front : ltb (key_rank (key y)) (key_rank (key x)) ≡ false → x ∷ left ys ≡ put_in key (left ys) x
        front t =
            let le = ltb-false (key_rank (key y)) (key_rank (key x)) t in
            sym (put_front key (key_rank (key y) + 1) (left ys) x (rising_kept key (λ (r : R). q (key r).file) (key_rank (key y) + 1) ys h.2) (omega (arith, le)))

        by : (b s u v : Bool) → ltb (key_rank (key y)) (key_rank (key x)) ≡ b → same_key (key y) (key x) ≡ s → q (key y).file ≡ u → q (key x).file ≡ v → (same_key (key y) (key x) ≡ true → q (key y).file ≡ q (key x).file)
            → left (put_in key ys x) ≡ cond v (put_in key (left ys) x) (left ys)
            → left (cond b (y ∷ put_in key ys x) (cond s (x ∷ ys) (x ∷ (y ∷ ys)))) ≡ cond v (put_in key (cond u (y ∷ left ys) (left ys)) x) (cond u (y ∷ left ys) (left ys))
        by true s true true t e w z f ih = ap (λ (b : Bool). cond b (y ∷ left (put_in key ys x)) (left (put_in key ys x))) w ∙ ap (λ (zs : List R). y ∷ zs) ih ∙ placed true s t e
        by true s true false t e w z f ih = ap (λ (b : Bool). cond b (y ∷ left (put_in key ys x)) (left (put_in key ys x))) w ∙ ap (λ (zs : List R). y ∷ zs) ih
        by true s false v t e w z f ih = ap (λ (b : Bool). cond b (y ∷ left (put_in key ys x)) (left (put_in key ys x))) w ∙ ih
        by false true true true t e w z f ih = ap (λ (b : Bool). cond b (x ∷ left ys) (left ys)) z ∙ placed false true t e
        by false true false false t e w z f ih = ap (λ (b : Bool). cond b (x ∷ left ys) (left ys)) z
        by false true true false t e w z f ih = absurd (true≢false (sym w ∙ f e ∙ z))
        by false true false true t e w z f ih = absurd (true≢false (sym (sym w ∙ f e ∙ z)))
        by false false true true t e w z f ih =
            ap₂ (λ (a b : Bool). cond a (x ∷ cond b (y ∷ left ys) (left ys)) (cond b (y ∷ left ys) (left ys))) z w ∙ placed false false t e
        by false false true false t e w z f ih = ap₂ (λ (a b : Bool). cond a (x ∷ cond b (y ∷ left ys) (left ys)) (cond b (y ∷ left ys) (left ys))) z w
        by false false false true t e w z f ih = ap₂ (λ (a b : Bool). cond a (x ∷ cond b (y ∷ left ys) (left ys)) (cond b (y ∷ left ys) (left ys))) z w ∙ front t
        by false false false false t e w z f ih = ap₂ (λ (a b : Bool). cond a (x ∷ cond b (y ∷ left ys) (left ys)) (cond b (y ∷ left ys) (left ys))) z w
