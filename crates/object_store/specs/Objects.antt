-- The map of an object store, and what changes make of it.
use Rattle.std.specs.Prelude.{ℕ, cond, not, List, [], ◌∷◌, map, Some, None, filter, Option, ◌==◌}
use Rattle.object.specs.declared.key.Key.{Key}
use Rattle.object.specs.declared.value.Object.{Object}
use Rattle.object_store.specs.declared.change.Change.{Change}
use Rattle.object_store.specs.declared.change.Change.TheVariants.{Set, Remove}
use Rattle.object_store.specs.declared.kept.Kept.{Kept}
use Rattle.object_store.specs.Tables.{same_key, put_in}

-- keys and what stands under them, by rising key: equal maps are equal lists
abbrev pub Objects : Type 0
Objects = List Kept

abbrev pub key_of : Kept → Key
key_of o = o.key

abbrev pub keys_of : Objects → List Key
keys_of os = map key_of os

-- what stands under the key
abbrev pub found : Objects → Key → Option Object
found [] k = None
found (o ∷ os) k = cond (same_key o.key k) (Some o.object) (found os k)

-- the map with the object under the key
abbrev pub put : Objects → Key → Object → Objects
put os k v = put_in key_of os (record { key = k; object = v })

-- the map without the keys of the file
abbrev pub without : Objects → ℕ → Objects
without os f = filter (λ (o : Kept). not (f == o.key.file)) os

-- the map after one change
abbrev pub changed : Objects → Change → Objects
changed os (Set k v) = put os k v
changed os (Remove f) = without os f

-- the map after the changes, in their order
abbrev pub after_batch : Objects → List Change → Objects
after_batch os [] = os
after_batch os (c ∷ cs) = after_batch (changed os c) cs
