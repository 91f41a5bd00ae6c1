-- Removals first gives the same map, and the keys there at each moment.
use Rattle.std.proofs.Common.{◌≡◌, ℕ, ◌≤◌, Bool, true, false, cond, not, ◌||◌, eqb, leb, List, [], ◌∷◌, sym, refl, ap, ◌∙◌, arith}
use Rattle.std.proofs.lemmas.Bool.{and_parts, or_parts, not-true, eqb-true, eqb-false, ne_eqb, leb-true}
use Rattle.object.specs.Rank.{key_rank}
use Rattle.object.specs.declared.key.Key.{Key}
use Rattle.object.specs.declared.value.Object.{Object}
use Rattle.object.specs.declared.value.Object.TheVariants as object
use Rattle.page.specs.Fits.{entry_fits}
use Rattle.object_store.specs.declared.change.Change.{Change}
use Rattle.object_store.specs.declared.change.Change.TheVariants.{Set, Remove}
use Rattle.object_store.specs.declared.kept.Kept.{Kept}
use Rattle.object_store.specs.Tables.{Rising}
use Rattle.object_store.specs.Changes.{object_fits, change_fits, sets_file, removes, in_order}
use Rattle.object_store.specs.Counts.{stays}
use Rattle.object_store.specs.Objects.{Objects, key_of, keys_of, put, without, after_batch}
use Rattle.object_store.specs.Settled.{Placeable, spared, settle, settled}
use Rattle.object_store.proofs.Keys.{rising_put, rising_kept}
use Rattle.object_store.proofs.Having.{kept_put}

object_part : (part : ℕ) (v : Object) → object_fits part v ≡ true → part ≤ 32
object_part part (object.Entry e) t = let z : part ≡ 0 = eqb-true part 0 (and_parts (eqb part 0) (entry_fits e) t).0 in omega arith
object_part part (object.Chunk bytes) t = leb-true part 32 (and_parts (leb 1 part) (leb part 32) t).1

pub fits_placeable : (k : Key) (v : Object) → change_fits (Set k v) ≡ true → (256 ≤ key_rank k) × (k.part ≤ 32)
fits_placeable k v t =
    let parts = and_parts (leb 1 k.file) (object_fits k.part v) t in
    let file = leb-true 1 k.file parts.0 in
    (omega (arith, file), object_part k.part v parts.1)

pub rising_settle : (all : List Change) (os : Objects) (k : Key) (v : Object) → Rising (keys_of os) → 256 ≤ key_rank k → k.part ≤ 32 → Rising (keys_of (settle all os (Set k v)))
rising_settle all os k v h l p = by (removes all k.file)
  where
    by : (b : Bool) → Rising (keys_of (cond b os (put os k v)))
    by true = h
    by false = rising_put key_of 256 os (record { key = k; object = v }) h l p

pub rising_settled : (all cs : List Change) (os : Objects) → Placeable cs → Rising (keys_of os) → Rising (keys_of (settled all os cs))
rising_settled all [] os p h = h
rising_settled all (Set k v ∷ cs) os p h = rising_settled all cs (settle all os (Set k v)) p.2 (rising_settle all os k v h p.0 p.1)
rising_settled all (Remove f ∷ cs) os p h = rising_settled all cs os p h

pub rising_spared : (cs : List Change) (os : Objects) → Rising (keys_of os) → Rising (keys_of (spared cs os))
rising_spared cs os h = rising_kept key_of (λ (o : Kept). stays cs o.key) 256 os h

-- a file that no change sets is settled alike whether it is removed or not
spared_alike : (all cs : List Change) (os : Objects) (f : ℕ) → sets_file cs f ≡ false → settled (Remove f ∷ all) os cs ≡ settled all os cs
spared_alike all [] os f n = refl
spared_alike all (Set k v ∷ cs) os f n =
    let parts = or_parts (eqb k.file f) (sets_file cs f) n in
    let turn : eqb f k.file ≡ false = other f k.file parts.0 in
    ap (λ (b : Bool). settled (Remove f ∷ all) (cond (b || removes all k.file) os (put os k v)) cs) turn ∙ spared_alike all cs (settle all os (Set k v)) f parts.1
  where
    other : (a b : ℕ) → eqb b a ≡ false → eqb a b ≡ false
    other a b e = ne_eqb a b (λ q. eqb-false b a e (sym q))
spared_alike all (Remove g ∷ cs) os f n = spared_alike all cs os f n

spared_twice : (cs : List Change) (os : Objects) (f : ℕ) → spared cs (without os f) ≡ spared (Remove f ∷ cs) os
spared_twice cs [] f = refl
spared_twice cs (o ∷ os) f = by (eqb f o.key.file) (spared_twice cs os f)
  where
    by : (b : Bool) → spared cs (without os f) ≡ spared (Remove f ∷ cs) os
        → spared cs (cond (not b) (o ∷ without os f) (without os f)) ≡ cond (not (b || removes cs o.key.file)) (o ∷ spared (Remove f ∷ cs) os) (spared (Remove f ∷ cs) os)
    by true ih = ih
    by false ih = ap (λ (rest : Objects). cond (stays cs o.key) (o ∷ rest) rest) ih

-- the map after a batch, by removals first
pub removals_first : (cs : List Change) (os : Objects) → Rising (keys_of os) → Placeable cs → in_order cs ≡ true → after_batch os cs ≡ settled cs (spared cs os) cs
removals_first [] os h p t = sym (all_spared os)
  where
    all_spared : (os : Objects) → spared [] os ≡ os
    all_spared [] = refl
    all_spared (o ∷ os) = ap (λ (rest : Objects). o ∷ rest) (all_spared os)
removals_first (Set k v ∷ cs) os h p t =
    removals_first cs (put os k v) (rising_put key_of 256 os (record { key = k; object = v }) h p.0 p.1) p.2 t
    ∙ ap (λ (m : Objects). settled cs m cs) (kept_put key_of (λ (f : ℕ). not (removes cs f)) 256 os (record { key = k; object = v }) h ∙ turn (removes cs k.file) (put (spared cs os) k v) (spared cs os))
  where
    turn : (b : Bool) (x y : Objects) → cond (not b) x y ≡ cond b y x
    turn true x y = refl
    turn false x y = refl
removals_first (Remove f ∷ cs) os h p t =
    let parts = and_parts (not (sets_file cs f)) (in_order cs) t in
    removals_first cs (without os f) (rising_kept key_of (λ (o : Kept). not (eqb f o.key.file)) 256 os h) p parts.1
    ∙ ap (λ (m : Objects). settled cs m cs) (spared_twice cs os f)
    ∙ sym (spared_alike cs cs (spared (Remove f ∷ cs) os) f (not-true (sets_file cs f) parts.0))
