-- What a batch keeps of a map: keys rise, and objects fit.
use Rattle.std.proofs.Common.{◌≡◌, ℕ, ◌≤◌, min, Bool, true, false, cond, not, ◌&&◌, eqb, ltb, leb, List, [], ◌∷◌, length, filter, sym, refl, subst, arith}
use Rattle.std.proofs.lemmas.Bool.{and_parts, and_from}
use Rattle.object.specs.Rank.{key_rank}
use Rattle.object.specs.declared.key.Key.{Key}
use Rattle.object_store.specs.declared.change.Change.{Change}
use Rattle.object_store.specs.declared.change.Change.TheVariants.{Set, Remove}
use Rattle.object_store.specs.declared.kept.Kept.{Kept}
use Rattle.object_store.specs.Changes.{object_fits, change_fits, in_order}
use Rattle.object_store.specs.Fit.{known, each_fits, rooted}
use Rattle.object_store.specs.Lent.{shelf_of}
use Rattle.object_store.specs.Objects.{Objects, key_of, keys_of, put, after_batch}
use Rattle.object_store.specs.Settled.{Placeable, spared}
use Rattle.object_store.specs.Shelf.{Sound, all_fit}
use Rattle.object_store.specs.Tables.{same_key, put_in, Rising}
use Rattle.object_store.proofs.Gaps.{gap_rises, gap_free}
use Rattle.object_store.proofs.Settling.{rising_spared, rising_settled, removals_first}

pub rising_after : (cs : List Change) (os : Objects) → Rising (keys_of os) → Placeable cs → in_order cs ≡ true → Rising (keys_of (after_batch os cs))
rising_after cs os h p t =
    subst (λ (m : Objects). Rising (keys_of m)) (sym (removals_first cs os h p t)) (rising_settled cs cs (spared cs os) p (rising_spared cs os h))

fit_kept : (p : Kept → Bool) (os : Objects) → all_fit os ≡ true → all_fit (filter p os) ≡ true
fit_kept p [] t = refl
fit_kept p (o ∷ os) t =
    let parts = and_parts (object_fits o.key.part o.object) (all_fit os) t in
    by (p o) parts.0 (fit_kept p os parts.1)
  where
    by : (b : Bool) → object_fits o.key.part o.object ≡ true → all_fit (filter p os) ≡ true → all_fit (cond b (o ∷ filter p os) (filter p os)) ≡ true
    by true here rest = and_from (object_fits o.key.part o.object) (all_fit (filter p os)) here rest
    by false here rest = rest

fit_put : (os : Objects) (x : Kept) → object_fits x.key.part x.object ≡ true → all_fit os ≡ true → all_fit (put_in key_of os x) ≡ true
fit_put [] x new t = and_from (object_fits x.key.part x.object) true new refl
fit_put (o ∷ os) x new t =
    let parts = and_parts (object_fits o.key.part o.object) (all_fit os) t in
    by (ltb (key_rank o.key) (key_rank x.key)) (same_key o.key x.key) parts.0 parts.1 (fit_put os x new parts.1)
  where
    by : (b s : Bool) → object_fits o.key.part o.object ≡ true → all_fit os ≡ true → all_fit (put_in key_of os x) ≡ true
        → all_fit (cond b (o ∷ put_in key_of os x) (cond s (x ∷ os) (x ∷ (o ∷ os)))) ≡ true
    by true s here rest more = and_from (object_fits o.key.part o.object) (all_fit (put_in key_of os x)) here more
    by false true here rest more = and_from (object_fits x.key.part x.object) (all_fit os) new rest
    by false false here rest more =
        and_from (object_fits x.key.part x.object) (object_fits o.key.part o.object && all_fit os) new (and_from (object_fits o.key.part o.object) (all_fit os) here rest)

pub fit_after : (ks : List Key) (unused : ℕ) (cs : List Change) (os : Objects) → each_fits ks unused cs ≡ true → all_fit os ≡ true → all_fit (after_batch os cs) ≡ true
fit_after ks unused [] os e t = t
fit_after ks unused (Set k v ∷ cs) os e t =
    let parts = and_parts (change_fits (Set k v) && known ks unused k.file) (each_fits ks unused cs) e in
    let here = and_parts (leb 1 k.file) (object_fits k.part v) (and_parts (change_fits (Set k v)) (known ks unused k.file) parts.0).0 in
    fit_after ks unused cs (put os k v) parts.1 (fit_put os (record { key = k; object = v }) here.1 t)
fit_after ks unused (Remove f ∷ cs) os e t =
    fit_after ks unused cs (filter (λ (o : Kept). not (eqb f o.key.file)) os) (and_parts (change_fits (Remove f) && known ks unused f) (each_fits ks unused cs) e).1 (fit_kept (λ (o : Kept). not (eqb f o.key.file)) os t)

-- a map in a table is a sound store
pub sound_of : (os : Objects) (places : ℕ) → Rising (keys_of os) → all_fit os ≡ true → rooted (keys_of os) ≡ true → length os ≤ min places 208 → Sound (shelf_of os places)
sound_of os places rising fitted entries few =
    record {
      rising = rising;
      fitted = fitted;
      entries = entries;
      has_map = λ on. refl;
      few = λ on. few;
      small = λ on. omega arith;
      fresh = λ on. (gap_rises 1 (keys_of os), gap_free 1 256 (keys_of os) (omega arith) rising (omega arith));
    }
