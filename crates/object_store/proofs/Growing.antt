-- How many keys a batch leaves: those that stay, and the new ones that it brings.
use Rattle.std.proofs.Common.{◌≡◌, ℕ, ◌+◌, ◌≤◌, Bool, true, false, cond, not, ◌&&◌, ◌||◌, List, [], ◌∷◌, ◌++◌, length, filter, sym, refl, ap, ◌∙◌, arith}
use Rattle.std.proofs.Math.Bool.{or-false, or_assoc}
use Rattle.std.proofs.lemmas.List.Folds.{list_any-append}
use Rattle.object.specs.declared.key.Key.{Key}
use Rattle.object.specs.declared.value.Object.{Object}
use Rattle.object_store.specs.declared.change.Change.{Change}
use Rattle.object_store.specs.declared.change.Change.TheVariants.{Set, Remove}
use Rattle.object_store.specs.Tables.{same_key, has_key, Rising}
use Rattle.object_store.specs.Changes.{sets, sets_key, removes, in_order}
use Rattle.object_store.specs.Counts.{stays, staying, brought}
use Rattle.object_store.specs.Objects.{Objects, key_of, keys_of, put, after_batch}
use Rattle.object_store.specs.Settled.{Placeable, spared, settle, settled}
use Rattle.object_store.proofs.Keys.{same_file, rising_put, grown}
use Rattle.object_store.proofs.Having.{has_put, has_kept}
use Rattle.object_store.proofs.Settling.{rising_settle, rising_spared, removals_first}

-- a change at the end
pub sets_last : (cs : List Change) (c : Change) (k : Key) → sets_key (cs ++ c ∷ []) k ≡ (sets_key cs k || sets c k)
sets_last cs c k = list_any-append (λ d. sets d k) cs (c ∷ []) ∙ ap (λ (b : Bool). sets_key cs k || b) (or-false (sets c k))

pub length_spared : (cs : List Change) (os : Objects) → length (spared cs os) ≡ staying cs (keys_of os)
length_spared cs [] = refl
length_spared cs (o ∷ os) = by (stays cs o.key) (length_spared cs os)
  where
    by : (b : Bool) → length (spared cs os) ≡ staying cs (keys_of os)
        → length (cond b (o ∷ spared cs os) (spared cs os)) ≡ length (cond b (o.key ∷ filter (stays cs) (keys_of os)) (filter (stays cs) (keys_of os)))
    by true e = omega (arith, e)
    by false e = e

-- of the keys that stay, a moment's map has those of before and those set so far
abbrev SoFar : List Key → List Change → List Change → Objects → Type 0
SoFar ks all earlier os = (k : Key) → removes all k.file ≡ false → has_key (keys_of os) k ≡ (has_key ks k || sets_key earlier k)

so_far_put : (ks : List Key) (all earlier : List Change) (os : Objects) (k : Key) (v : Object) → SoFar ks all earlier os → SoFar ks all (earlier ++ Set k v ∷ []) (put os k v)
so_far_put ks all earlier os k v have j live =
    has_put key_of os (record { key = k; object = v }) j ∙ ap (λ (b : Bool). b || same_key k j) (have j live) ∙ or_assoc (has_key ks j) (sets_key earlier j) (same_key k j)
    ∙ ap (λ (b : Bool). has_key ks j || b) (sym (sets_last earlier (Set k v) j))

so_far_other : (ks : List Key) (all earlier : List Change) (os : Objects) (c : Change) → SoFar ks all earlier os → ((k : Key) → removes all k.file ≡ false → sets c k ≡ false)
    → SoFar ks all (earlier ++ c ∷ []) os
so_far_other ks all earlier os c have none j live =
    have j live ∙ ap (λ (b : Bool). has_key ks j || b) (sym (or-false (sets_key earlier j)) ∙ ap (λ (b : Bool). sets_key earlier j || b) (sym (none j live)) ∙ sym (sets_last earlier c j))

-- the key of a file that is removed is none that stays
gone_other : (all : List Change) (k : Key) → removes all k.file ≡ true → (j : Key) → removes all j.file ≡ false → same_key k j ≡ false
gone_other all k t j f = by (same_key k j) refl
  where
    by : (b : Bool) → same_key k j ≡ b → b ≡ false
    by true e = sym t ∙ ap (removes all) (same_file k j e) ∙ f
    by false e = refl

bring : (h s : Bool) → ◌≡◌ {A = ℕ} (cond (h || s) 0 1) (cond (not h && not s) 1 0)
bring true s = refl
bring false true = refl
bring false false = refl

pub count_settled : (ks : List Key) (all earlier cs : List Change) (os : Objects) → Rising (keys_of os) → Placeable cs → SoFar ks all earlier os
    → length (settled all os cs) ≡ length os + brought ks all earlier cs
count_settled ks all earlier [] os h p have = omega arith
count_settled ks all earlier (Remove f ∷ cs) os h p have =
    count_settled ks all (earlier ++ Remove f ∷ []) cs os h p (so_far_other ks all earlier os (Remove f) have (λ k live. refl)) ∙ omega arith
count_settled ks all earlier (Set k v ∷ cs) os h p have =
    by (removes all k.file) refl (λ m r so. count_settled ks all (earlier ++ Set k v ∷ []) cs m r p.2 so)
  where
    by : (b : Bool) → removes all k.file ≡ b
        → ((m : Objects) → Rising (keys_of m) → SoFar ks all (earlier ++ Set k v ∷ []) m → length (settled all m cs) ≡ length m + brought ks all (earlier ++ Set k v ∷ []) cs)
        → length (settled all (cond b os (put os k v)) cs) ≡ length os + (cond (not b && not (has_key ks k) && not (sets_key earlier k)) 1 0 + brought ks all (earlier ++ Set k v ∷ []) cs)
    by true e rest = rest os h (so_far_other ks all earlier os (Set k v) have (gone_other all k e)) ∙ omega arith
    by false e rest =
        let up = rest (put os k v) (rising_put key_of 256 os (record { key = k; object = v }) h p.0 p.1) (so_far_put ks all earlier os k v have) in
        let one = grown key_of 256 os (record { key = k; object = v }) h in
        let new : ◌≡◌ {A = ℕ} (cond (has_key (keys_of os) k) 0 1) (cond (not (has_key ks k) && not (sets_key earlier k)) 1 0) = ap (λ (b : Bool). cond b 0 1) (have k e) ∙ bring (has_key ks k) (sets_key earlier k) in
        omega (arith, up, one, new)

-- what the count of the code comes to
pub count_after : (cs : List Change) (os : Objects) → Rising (keys_of os) → Placeable cs → in_order cs ≡ true
    → length (after_batch os cs) ≡ staying cs (keys_of os) + brought (keys_of os) cs [] cs
count_after cs os h p t =
    ap length (removals_first cs os h p t)
    ∙ count_settled (keys_of os) cs [] cs (spared cs os) (rising_spared cs os h) p (λ k live. has_kept key_of (λ (f : ℕ). not (removes cs f)) os k ∙ ap (λ (b : Bool). not b && has_key (keys_of os) k) live ∙ sym (or-false (has_key (keys_of os) k)))
    ∙ ap (λ n. n + brought (keys_of os) cs [] cs) (length_spared cs os)

-- a map only grows on the way
pub settle_grows : (all : List Change) (os : Objects) (c : Change) → Rising (keys_of os) → length os ≤ length (settle all os c)
settle_grows all os (Remove f) h = omega arith
settle_grows all os (Set k v) h = by (removes all k.file)
  where
    by : (b : Bool) → length os ≤ length (cond b os (put os k v))
    by true = omega arith
    by false = let one = grown key_of 256 os (record { key = k; object = v }) h in omega (arith, one)

pub settled_grows : (all cs : List Change) (os : Objects) → Placeable cs → Rising (keys_of os) → length os ≤ length (settled all os cs)
settled_grows all [] os p h = omega arith
settled_grows all (Remove f ∷ cs) os p h = settled_grows all cs os p h
settled_grows all (Set k v ∷ cs) os p h =
    let one = settle_grows all os (Set k v) h in
    let rest = settled_grows all cs (settle all os (Set k v)) p.2 (rising_settle all os k v h p.0 p.1) in
    omega (arith, one, rest)
