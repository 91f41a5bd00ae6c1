-- What a map tells after a change, and that it is no more than what it tells.
use Rattle.std.specs.Prelude.{◌≡◌, ℕ, true, cond, not, ◌&&◌, ◌||◌, List, Some, None, ◌==◌}
use Rattle.object.specs.declared.key.Key.{Key}
use Rattle.object.specs.declared.value.Object.{Object}
use Rattle.object_store.specs.declared.change.Change.{Change}
use Rattle.object_store.specs.Changes.{in_order, object_fits, removes, sets_key}
use Rattle.object_store.specs.Fit.{fit, rooted}
use Rattle.object_store.specs.Objects.{Objects, keys_of, found, put, without, after_batch}
use Rattle.object_store.specs.Shelf.{all_fit}
use Rattle.object_store.specs.Tables.{same_key, has_key, Rising}

-- a key that is set tells its object, and every other key what it told before
abbrev pub SetIsTold : Type 0
SetIsTold = (os : Objects) (k j : Key) (v : Object) → found (put os k v) j ≡ cond (same_key k j) (Some v) (found os j)

-- a file that is removed has no keys, and every other key tells what it told before
abbrev pub RemovalIsTold : Type 0
RemovalIsTold = (os : Objects) (f : ℕ) (j : Key) → found (without os f) j ≡ cond (f == j.file) None (found os j)

-- what stands under a key is an object that its part may hold: an entry at part 0, a chunk at the others
abbrev pub FoundFits : Type 0
FoundFits = (os : Objects) (k : Key) (v : Object) → all_fit os ≡ true → found os k ≡ Some v → object_fits k.part v ≡ true

-- the keys after a batch are those of before and those that it sets, but for the files that it removes
abbrev pub BatchHasKeys : Type 0
BatchHasKeys =
    (os : Objects) (cs : List Change) (k : Key) → in_order cs ≡ true
    → has_key (keys_of (after_batch os cs)) k ≡ (not (removes cs k.file) && (has_key (keys_of os) k || sets_key cs k))

-- a fit batch keeps a map sound
abbrev pub FitBatchKeepsSound : Type 0
FitBatchKeepsSound =
    (os : Objects) (unused : ℕ) (cs : List Change) → Rising (keys_of os) → all_fit os ≡ true → fit os unused cs ≡ true
    → Rising (keys_of (after_batch os cs)) × (all_fit (after_batch os cs) ≡ true) × (rooted (keys_of (after_batch os cs)) ≡ true)

-- maps that tell the same are the same list
abbrev pub SameToldSameMap : Type 0
SameToldSameMap = (os ps : Objects) → Rising (keys_of os) → Rising (keys_of ps) → ((k : Key) → found os k ≡ found ps k) → os ≡ ps
