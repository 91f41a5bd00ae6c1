-- What is found once a map is changed, and that a map is no more than what is found in it.
use Rattle.std.proofs.Common.{◌≡◌, ℕ, ◌+◌, ◌<◌, ◌≤◌, Bool, true, false, cond, not, eqb, ltb, [], ◌∷◌, Some, None, Option, sym, refl, ap, ◌∙◌, ap₂, inl, inr, arith}
use Rattle.std.proofs.lemmas.Bool.{true≢false, and_parts, ltb-true, cases_order}
use Rattle.object.specs.Rank.{key_rank}
use Rattle.object.specs.declared.key.Key.{Key}
use Rattle.object.specs.declared.value.Object.{Object}
use Rattle.object_store.specs.declared.kept.Kept.{Kept}
use Rattle.object_store.specs.Changes.{object_fits}
use Rattle.object_store.specs.Shelf.{all_fit}
use Rattle.object_store.specs.Laws.{SetIsTold, RemovalIsTold, BatchHasKeys, FitBatchKeepsSound, FoundFits, SameToldSameMap}
use Rattle.object_store.specs.Objects.{Objects, keys_of, found, put, without}
use Rattle.object_store.specs.Tables.{same_key, RisingFrom}
use Rattle.object_store.proofs.Keeping.{rising_after, fit_after}
use Rattle.object_store.proofs.Keys.{same_file, same_part, same_rank, same_with, same_itself, one_rank, other_rank, rising_weaker}
use Rattle.object_store.proofs.Rooting.{has_after}
use Rattle.object_store.proofs.Verdicts.{fitting}

-- two tests that never hold together may be made in either order
swap : (u t : Bool) (a b d : Option Object) → (u ≡ true → t ≡ true → ⊥) → cond u a (cond t b d) ≡ cond t b (cond u a d)
swap true true a b d apart = absurd (apart refl refl)
swap true false a b d apart = refl
swap false t a b d apart = refl

-- the second of two tests that say the same is not needed
once : (u t : Bool) (a b d : Option Object) → u ≡ t → cond t b d ≡ cond t b (cond u a d)
once true true a b d e = refl
once true false a b d e = absurd (true≢false e)
once false t a b d e = refl

pub set_is_told : SetIsTold
set_is_told [] k j v = refl
set_is_told (o ∷ os) k j v = by (ltb (key_rank o.key) (key_rank k)) (same_key o.key k) refl refl (set_is_told os k j v)
  where
    by : (b s : Bool) → ltb (key_rank o.key) (key_rank k) ≡ b → same_key o.key k ≡ s → found (put os k v) j ≡ cond (same_key k j) (Some v) (found os j)
        → found (cond b (o ∷ put os k v) (cond s (record { key = k; object = v } ∷ os) (record { key = k; object = v } ∷ (o ∷ os)))) j
        ≡ cond (same_key k j) (Some v) (cond (same_key o.key j) (Some o.object) (found os j))
    by true s l e ih =
        ap (λ (x : Option Object). cond (same_key o.key j) (Some o.object) x) ih
        ∙ swap (same_key o.key j) (same_key k j) (Some o.object) (Some v) (found os j)
        (λ u t. (let lt = ltb-true (key_rank o.key) (key_rank k) l in let a = same_rank o.key j u in let b = same_rank k j t in omega (arith, lt, a, b)))
    by false true l e ih = once (same_key o.key j) (same_key k j) (Some o.object) (Some v) (found os j) (same_with o.key k j e)
    by false false l e ih = refl

pub removal_is_told : RemovalIsTold
removal_is_told [] f j = none (eqb f j.file)
  where
    none : (b : Bool) → ◌≡◌ {A = Option Object} None (cond b None None)
    none true = refl
    none false = refl
removal_is_told (o ∷ os) f j = by (eqb f o.key.file) refl (removal_is_told os f j)
  where
    alike : same_key o.key j ≡ true → eqb f o.key.file ≡ eqb f j.file
    alike u = ap (eqb f) (same_file o.key j u)

    gone : (e u : Bool) (d : Option Object) → (u ≡ true → true ≡ e) → cond e None d ≡ cond e None (cond u (Some o.object) d)
    gone true u d same = refl
    gone false true d same = absurd (true≢false (same refl))
    gone false false d same = refl

    by : (b : Bool) → eqb f o.key.file ≡ b → found (without os f) j ≡ cond (eqb f j.file) None (found os j)
        → found (cond (not b) (o ∷ without os f) (without os f)) j ≡ cond (eqb f j.file) None (cond (same_key o.key j) (Some o.object) (found os j))
    by true e ih = ih ∙ gone (eqb f j.file) (same_key o.key j) (found os j) (λ u. sym e ∙ alike u)
    by false e ih =
        ap (λ (x : Option Object). cond (same_key o.key j) (Some o.object) x) ih
        ∙ swap (same_key o.key j) (eqb f j.file) (Some o.object) None (found os j) (λ u t. true≢false (sym t ∙ sym (alike u) ∙ e))

pub found_fits : FoundFits
found_fits [] k v t e = absurd (let z : ◌≡◌ {A = ℕ} 0 1 = cc in omega arith)
found_fits (o ∷ os) k v t e =
    let parts = and_parts (object_fits o.key.part o.object) (all_fit os) t in
    by (same_key o.key k) refl e parts.0 (λ rest. found_fits os k v parts.1 rest)
  where
    by : (b : Bool) → same_key o.key k ≡ b → cond b (Some o.object) (found os k) ≡ Some v → object_fits o.key.part o.object ≡ true → (found os k ≡ Some v → object_fits k.part v ≡ true)
        → object_fits k.part v ≡ true
    by true s q here rest = ap₂ object_fits (sym (same_part o.key k s)) (let w : v ≡ o.object = cc in w) ∙ here
    by false s q here rest = rest q

pub batch_has_keys : BatchHasKeys
batch_has_keys os cs k t = has_after cs os k t

pub fit_batch_keeps_sound : FitBatchKeepsSound
fit_batch_keeps_sound os unused cs rising fitted t =
    let f = fitting os unused cs t in
    (rising_after cs os rising f.placed f.ordered, fit_after (keys_of os) unused cs os f.each fitted, f.entries)

found_low : (r : ℕ) (os : Objects) (k : Key) → RisingFrom r (keys_of os) → key_rank k < r → found os k ≡ None
found_low r [] k h l = refl
found_low r (o ∷ os) k h l =
    let g : r ≤ key_rank o.key = h.0 in
    ap (λ (b : Bool). cond b (Some o.object) (found os k)) (other_rank o.key k (λ e. omega (arith, e))) ∙ found_low (key_rank o.key + 1) os k h.2 (omega arith)

found_first : (o : Kept) (os : Objects) → found (o ∷ os) o.key ≡ Some o.object
found_first o os = ap (λ (b : Bool). cond b (Some o.object) (found os o.key)) (same_itself o.key)

nothing_told : {A : Type 0} (v : Object) (x : Option Object) → x ≡ Some v → x ≡ None → A
nothing_told v x e f = absurd (let z : ◌≡◌ {A = ℕ} 0 1 = cc in omega arith)

same_map : (r : ℕ) (os ps : Objects) → RisingFrom r (keys_of os) → RisingFrom r (keys_of ps) → ((k : Key) → found os k ≡ found ps k) → os ≡ ps
same_map r [] [] h g told = refl
same_map r [] (p ∷ ps) h g told = nothing_told p.object (found (p ∷ ps) p.key) (found_first p ps) (sym (told p.key))
same_map r (o ∷ os) [] h g told = nothing_told o.object (found (o ∷ os) o.key) (found_first o os) (told o.key)
same_map r (o ∷ os) (p ∷ ps) h g told =
    elim (cases_order (key_rank o.key) (key_rank p.key)) [
      | inl e ↦ heads e (λ rest. same_map (key_rank o.key + 1) os ps h.2 (ap_rising e) rest)
      | inr apart ↦ elim apart [
        | inl low ↦ nothing_told o.object (found (o ∷ os) o.key) (found_first o os) (told o.key ∙ found_low (key_rank p.key) (p ∷ ps) o.key (omega arith, g.1, g.2) low)
        | inr high ↦ nothing_told p.object (found (p ∷ ps) p.key) (found_first p ps) (sym (told p.key) ∙ found_low (key_rank o.key) (o ∷ os) p.key (omega arith, h.1, h.2) high)
      ]
    ]
  where
    ap_rising : key_rank o.key ≡ key_rank p.key → RisingFrom (key_rank o.key + 1) (keys_of ps)
    ap_rising e = rising_weaker (key_rank o.key + 1) (key_rank p.key + 1) (keys_of ps) (omega (arith, e)) g.2

    heads : key_rank o.key ≡ key_rank p.key → (((k : Key) → found os k ≡ found ps k) → os ≡ ps) → ◌≡◌ {A = Objects} (o ∷ os) (p ∷ ps)
    heads e tails =
        let same = one_rank o.key p.key h.1 g.1 e in
        let key : o.key ≡ p.key = ap₂ (λ (f q : ℕ). record { file = f; part = q }) (same_file o.key p.key same) (same_part o.key p.key same) in
        let first : found (p ∷ ps) o.key ≡ Some p.object = ap (found (p ∷ ps)) key ∙ found_first p ps in
        let object : o.object ≡ p.object = given o.object p.object (sym (found_first o os) ∙ told o.key ∙ first) in
        ap₂ (λ (x : Kept) (xs : Objects). x ∷ xs) (ap₂ (λ (k : Key) (v : Object). record { key = k; object = v }) key object) (tails (λ k. rest k))
      where
        given : (a b : Object) → ◌≡◌ {A = Option Object} (Some a) (Some b) → a ≡ b
        given a b q = cc

        rest : (k : Key) → found os k ≡ found ps k
        rest k = by (same_key o.key k) refl
          where
            by : (b : Bool) → same_key o.key k ≡ b → found os k ≡ found ps k
            by true t =
                let q = same_rank o.key k t in
                found_low (key_rank o.key + 1) os k h.2 (omega (arith, q)) ∙ sym (found_low (key_rank p.key + 1) ps k g.2 (omega (arith, q, e)))
            by false t =
                let other : same_key p.key k ≡ false = sym (same_with o.key p.key k (one_rank o.key p.key h.1 g.1 e)) ∙ t in
                ap (λ (b : Bool). cond b (Some o.object) (found os k)) (sym t) ∙ told k ∙ ap (λ (b : Bool). cond b (Some p.object) (found ps k)) other

pub same_told_same_map : SameToldSameMap
same_told_same_map os ps h g told = same_map 256 os ps h g told
