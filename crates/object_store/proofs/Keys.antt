-- Keys that are the same, and tables whose keys rise.
use Rattle.std.proofs.Common.{◌≡◌, ℕ, ◌+◌, ◌*◌, ◌<◌, ◌≤◌, Bool, true, false, cond, ◌&&◌, ◌||◌, eqb, ltb, List, [], ◌∷◌, map, length, filter, sym, refl, ap, ◌∙◌, ap₂, inl, inr, arith}
use Rattle.std.proofs.lemmas.Bool.{true≢false, and_parts, eqb-true, eq-eqb, ltb-true, ltb-false, le-ltb, cases_Bool, cases_order}
use Rattle.object.specs.Rank.{key_rank}
use Rattle.object.specs.declared.key.Key.{Key}
use Rattle.object_store.specs.Tables.{same_key, has_key, put_in, RisingFrom}

pub same_file : (j k : Key) → same_key j k ≡ true → j.file ≡ k.file
same_file j k t = eqb-true j.file k.file (and_parts (eqb j.file k.file) (eqb j.part k.part) t).0

pub same_part : (j k : Key) → same_key j k ≡ true → j.part ≡ k.part
same_part j k t = eqb-true j.part k.part (and_parts (eqb j.file k.file) (eqb j.part k.part) t).1

pub same_rank : (j k : Key) → same_key j k ≡ true → key_rank j ≡ key_rank k
same_rank j k t = ap₂ (λ (f p : ℕ). f * 256 + p) (same_file j k t) (same_part j k t)

pub same_itself : (k : Key) → same_key k k ≡ true
same_itself k = ap₂ (λ (a b : Bool). a && b) (eq-eqb k.file k.file refl) (eq-eqb k.part k.part refl)

-- the same keys are the same as any third
pub same_with : (j k m : Key) → same_key j k ≡ true → same_key j m ≡ same_key k m
same_with j k m t = ap₂ (λ (f p : ℕ). eqb f m.file && eqb p m.part) (same_file j k t) (same_part j k t)

pub other_rank : (j k : Key) → (key_rank j ≡ key_rank k → ⊥) → same_key j k ≡ false
other_rank j k ne = elim (cases_Bool (same_key j k)) [ inl t ↦ absurd (ne (same_rank j k t)) | inr f ↦ f ]

-- small parts: keys of one rank are the same
pub one_rank : (j k : Key) → j.part ≤ 32 → k.part ≤ 32 → key_rank j ≡ key_rank k → same_key j k ≡ true
one_rank j k hj hk e =
    let f : j.file ≡ k.file = elim (cases_order j.file k.file) [ inl q ↦ q | inr o ↦ elim o [ inl l ↦ absurd (omega arith) | inr g ↦ absurd (omega arith) ] ] in
    let p : j.part ≡ k.part = omega arith in
    ap₂ (λ (a b : Bool). a && b) (eq-eqb j.file k.file f) (eq-eqb j.part k.part p)

pub rising_weaker : (s r : ℕ) (ks : List Key) → s ≤ r → RisingFrom r ks → RisingFrom s ks
rising_weaker s r [] le h = tt
rising_weaker s r (k ∷ ks) le h = let l : r ≤ key_rank k = h.0 in (omega arith, h.1, h.2)

-- keys that rise from above a key's rank are others
pub absent : (r : ℕ) (ks : List Key) (x : Key) → RisingFrom r ks → key_rank x < r → has_key ks x ≡ false
absent r [] x h l = refl
absent r (k ∷ ks) x h l =
    let g : r ≤ key_rank k = h.0 in
    ap₂ (λ (a b : Bool). a || b) (other_rank k x (λ e. omega arith)) (absent (key_rank k + 1) ks x h.2 (omega arith))

module _ {R : Type 0} (key : R → Key) where
  pub rising_kept : (p : R → Bool) (r : ℕ) (ys : List R) → RisingFrom r (map key ys) → RisingFrom r (map key (filter p ys))
  rising_kept p r [] h = tt
  rising_kept p r (y ∷ ys) h = by (p y) (rising_kept p (key_rank (key y) + 1) ys h.2)
    where
      by : (b : Bool) → RisingFrom (key_rank (key y) + 1) (map key (filter p ys)) → RisingFrom r (map key (cond b (y ∷ filter p ys) (filter p ys)))
      by true rest = (h.0, h.1, rest)
      by false rest = let l : r ≤ key_rank (key y) = h.0 in rising_weaker r (key_rank (key y) + 1) (map key (filter p ys)) (omega arith) rest

  -- a record below all goes to the front
  pub put_front : (r : ℕ) (ys : List R) (x : R) → RisingFrom r (map key ys) → key_rank (key x) < r → put_in key ys x ≡ x ∷ ys
  put_front r [] x h l = refl
  put_front r (y ∷ ys) x h l =
      let g : r ≤ key_rank (key y) = h.0 in
      ap₂ (λ (b s : Bool). cond b (y ∷ put_in key ys x) (cond s (x ∷ ys) (x ∷ (y ∷ ys))))
      (le-ltb (key_rank (key y)) (key_rank (key x)) (omega arith)) (other_rank (key y) (key x) (λ e. omega arith))

  pub rising_put : (r : ℕ) (ys : List R) (x : R) → RisingFrom r (map key ys) → r ≤ key_rank (key x) → (key x).part ≤ 32 → RisingFrom r (map key (put_in key ys x))
  rising_put r [] x h l p = (l, p, tt)
  rising_put r (y ∷ ys) x h l p = by (ltb (key_rank (key y)) (key_rank (key x))) (same_key (key y) (key x)) refl refl (λ le. rising_put (key_rank (key y) + 1) ys x h.2 le p)
    where
      by : (b s : Bool) → ltb (key_rank (key y)) (key_rank (key x)) ≡ b → same_key (key y) (key x) ≡ s → (key_rank (key y) + 1 ≤ key_rank (key x) → RisingFrom (key_rank (key y) + 1) (map key (put_in key ys x)))
          → RisingFrom r (map key (cond b (y ∷ put_in key ys x) (cond s (x ∷ ys) (x ∷ (y ∷ ys)))))
      by true s t e rest = let lt = ltb-true (key_rank (key y)) (key_rank (key x)) t in (h.0, h.1, rest (omega (arith, lt)))
      by false true t e rest = let q = same_rank (key y) (key x) e in (l, p, rising_weaker (key_rank (key x) + 1) (key_rank (key y) + 1) (map key ys) (omega (arith, q)) h.2)
      by false false t e rest =
          let le = ltb-false (key_rank (key y)) (key_rank (key x)) t in
          let part : (key y).part ≤ 32 = h.1 in
          let apart : key_rank (key y) ≡ key_rank (key x) → ⊥ = λ q. true≢false (sym (one_rank (key y) (key x) part p q) ∙ e) in
          (l, p, (strictly (key_rank (key x)) (key_rank (key y)) le apart, h.1, h.2))
        where
          strictly : (a b : ℕ) → a ≤ b → (b ≡ a → ⊥) → a + 1 ≤ b
          strictly a b le ne = omega arith

  -- a table grows by one where the key is new
  pub grown : (r : ℕ) (ys : List R) (x : R) → RisingFrom r (map key ys) → length (put_in key ys x) ≡ length ys + cond (has_key (map key ys) (key x)) 0 1
  grown r [] x h = refl
  grown r (y ∷ ys) x h = by (ltb (key_rank (key y)) (key_rank (key x))) (same_key (key y) (key x)) refl refl (grown (key_rank (key y) + 1) ys x h.2)
    where
      by : (b s : Bool) → ltb (key_rank (key y)) (key_rank (key x)) ≡ b → same_key (key y) (key x) ≡ s
          → length (put_in key ys x) ≡ length ys + cond (has_key (map key ys) (key x)) 0 1
          → length (cond b (y ∷ put_in key ys x) (cond s (x ∷ ys) (x ∷ (y ∷ ys)))) ≡ length (y ∷ ys) + cond (s || has_key (map key ys) (key x)) 0 1
      by true s t e more =
          let lt = ltb-true (key_rank (key y)) (key_rank (key x)) t in
          let other : s ≡ false = sym e ∙ other_rank (key y) (key x) (λ q. omega (arith, lt)) in
          let same : ◌≡◌ {A = ℕ} (cond (s || has_key (map key ys) (key x)) 0 1) (cond (has_key (map key ys) (key x)) 0 1) = ap (λ (b : Bool). cond (b || has_key (map key ys) (key x)) 0 1) other in
          omega (arith, more, same)
      by false true t e more = omega arith
      by false false t e more =
          let le = ltb-false (key_rank (key y)) (key_rank (key x)) t in
          let new : ◌≡◌ {A = ℕ} (cond (has_key (map key ys) (key x)) 0 1) 1 = ap (λ (b : Bool). cond b 0 1) (absent (key_rank (key y) + 1) (map key ys) (key x) h.2 (omega (arith, le))) in
          omega (arith, new)
