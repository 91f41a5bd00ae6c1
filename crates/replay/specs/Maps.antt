-- A map from keys to objects, and what it holds after some pages.
use Rattle.std.specs.Prelude.{◌≡◌, ℕ, ◌⊎◌, List, [], ◌∷◌, ◌≢◌}
use Rattle.object.specs.declared.key.Key.{Key}
use Rattle.object.specs.declared.value.Object.{Object}
use Rattle.object.specs.declared.value.Object.TheVariants as object
use Rattle.page.specs.declared.fields.Content.{Content}
use Rattle.page.specs.declared.fields.Content.TheVariants.{Note, Gone}
use Rattle.page.specs.declared.fields.Content.TheVariants as content
use Rattle.replay.specs.Log.{Logged, entry_key, chunk_key}

-- what stands under a key, as a relation
abbrev pub Map : Type 1
Map = Key → Object → Type 0

-- the map after a page of this file: an entry or a chunk is put under its key, and a file that is gone loses all its keys
abbrev pub PutBy : Map → ℕ → Content → Map
PutBy m file Note k v = m k v
PutBy m file (content.Entry e) k v = ((k ≡ entry_key file) × (object.Entry e ≡ v)) ⊎ ((k ≢ entry_key file) × m k v)
PutBy m file (content.Chunk c) k v =
    ((k ≡ chunk_key file c.index) × (object.Chunk c.bytes ≡ v)) ⊎ ((k ≢ chunk_key file c.index) × m k v)
PutBy m file Gone k v = (k.file ≢ file) × m k v

-- the map after one page
abbrev pub Put : Map → Logged → Map
Put m p = PutBy m p.page.header.file p.page.content

-- the map after some pages, in order
abbrev pub Puts : Map → List Logged → Map
Puts m [] = m
Puts m (p ∷ ps) = Puts (Put m p) ps
