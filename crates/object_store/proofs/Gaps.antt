-- The number told as unused is no key's.
use Rattle.std.proofs.Common.{◌≡◌, ℕ, ◌+◌, ◌*◌, ◌<◌, ◌≤◌, Bool, true, false, cond, ◌||◌, eqb, List, [], ◌∷◌, length, get_or, drop, sym, refl, ap, ◌∙◌, ap₂, inl, inr, arith}
use Rattle.std.proofs.lemmas.List.{at_drop_more}
use Rattle.std.proofs.lemmas.Bool.{eqb-true, eqb-false, ne_eqb, cases_lt}
use Rattle.object.specs.Rank.{key_rank}
use Rattle.object.specs.declared.key.Key.{Key}
use Rattle.object_store.specs.Tables.{has_file, RisingFrom}
use Rattle.object_store.specs.declared.kept.Kept.{Kept}
use Rattle.object_store.specs.Lent.{gap}
use Rattle.object_store.specs.Objects.{Objects, keys_of}

-- a number that is passed stays passed
pub gap_rises : (n : ℕ) (ks : List Key) → n ≤ gap n ks
gap_rises n [] = omega arith
gap_rises n (k ∷ ks) = by (eqb k.file n) (gap_rises (n + 1) ks) (gap_rises n ks)
  where
    by : (b : Bool) → n + 1 ≤ gap (n + 1) ks → n ≤ gap n ks → n ≤ cond b (gap (n + 1) ks) (gap n ks)
    by true more same = omega arith
    by false more same = same

pub gap_low : (n : ℕ) (ks : List Key) → gap n ks ≤ n + length ks
gap_low n [] = omega arith
gap_low n (k ∷ ks) = by (eqb k.file n) (gap_low (n + 1) ks) (gap_low n ks)
  where
    by : (b : Bool) → gap (n + 1) ks ≤ (n + 1) + length ks → gap n ks ≤ n + length ks → cond b (gap (n + 1) ks) (gap n ks) ≤ n + length (k ∷ ks)
    by true more same = omega arith
    by false more same = omega arith

-- of higher files no number is taken
gap_stays : (n r : ℕ) (ks : List Key) → RisingFrom r ks → n * 256 + 256 ≤ r → gap n ks ≡ n
gap_stays n r [] h l = refl
gap_stays n r (k ∷ ks) h l =
    let le : r ≤ key_rank k = h.0 in
    let p : k.part ≤ 32 = h.1 in
    ap (λ (b : Bool). cond b (gap (n + 1) ks) (gap n ks)) (ne_eqb k.file n (λ e. omega (arith, e))) ∙ gap_stays n (key_rank k + 1) ks h.2 (omega arith)

-- files from the one before n on
pub gap_free : (n r : ℕ) (ks : List Key) → 1 ≤ n → RisingFrom r ks → n * 256 ≤ r + 256 → has_file ks (gap n ks) ≡ false
gap_free n r [] one h l = refl
gap_free n r (k ∷ ks) one h l =
    by (eqb k.file n) refl (λ m. gap_free (n + 1) (key_rank k + 1) ks (omega arith) h.2 m) (gap_free n (key_rank k + 1) ks one h.2 (let le : r ≤ key_rank k = h.0 in omega arith))
  where
    by : (b : Bool) → eqb k.file n ≡ b → ((n + 1) * 256 ≤ (key_rank k + 1) + 256 → has_file ks (gap (n + 1) ks) ≡ false) → has_file ks (gap n ks) ≡ false
        → (eqb k.file (cond b (gap (n + 1) ks) (gap n ks)) || has_file ks (cond b (gap (n + 1) ks) (gap n ks))) ≡ false
    by true e next same =
        let f = eqb-true k.file n e in
        let up = gap_rises (n + 1) ks in
        ap₂ (λ (a b : Bool). a || b) (ne_eqb k.file (gap (n + 1) ks) (λ q. omega (arith, f, up))) (next (omega (arith, f)))
    by false e next same =
        let ne = eqb-false k.file n e in
        let up = gap_rises n ks in
        let other : k.file ≡ gap n ks → ⊥ = elim (cases_lt k.file n) [
          | inl low ↦ λ q. omega (arith, up)
          | inr high ↦ λ q. (let s = gap_stays n (key_rank k + 1) ks h.2 (above k.file k.part n high ne) in ne (q ∙ s))
        ] in
        ap₂ (λ (a b : Bool). a || b) (ne_eqb k.file (gap n ks) other) same
      where
        above : (f p n : ℕ) → n ≤ f → (f ≡ n → ⊥) → n * 256 + 256 ≤ (f * 256 + p) + 1
        above f p n le ne = let l : n + 1 ≤ f = omega arith in omega arith

-- one key more
pub gap_on : (xs : Objects) (i : ℕ) (d : Kept) (n m : ℕ) (b : Bool) → i < length xs → (n ≤ i + 1) × (gap n (keys_of (drop i xs)) ≡ gap 1 (keys_of xs)) → eqb (get_or xs i d).key.file n ≡ b
    → m ≡ cond b (n + 1) n → (m ≤ (i + 1) + 1) × (gap m (keys_of (drop (i + 1) xs)) ≡ gap 1 (keys_of xs))
gap_on xs i d n m b h inv e is =
    (by b is, ap (λ (k : ℕ). gap k rest) is ∙ pick b ∙ ap (λ (t : Bool). cond t (gap (n + 1) rest) (gap n rest)) (sym e) ∙ sym (at_drop_more (λ (os : Objects). gap n (keys_of os)) xs i d h) ∙ inv.1)
  where
    rest : List Key
    rest = keys_of (drop (i + 1) xs)

    by : (b : Bool) → m ≡ cond b (n + 1) n → m ≤ (i + 1) + 1
    by true q = let l = inv.0 in omega (arith, l)
    by false q = let l = inv.0 in omega (arith, l)

    pick : (b : Bool) → gap (cond b (n + 1) n) rest ≡ cond b (gap (n + 1) rest) (gap n rest)
    pick true = refl
    pick false = refl
