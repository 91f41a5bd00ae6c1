-- What an object store holds and tells, and what is known of every one.
use Rattle.std.specs.Prelude.{◌≡◌, ℕ, ◌≤◌, Bool, true, false, ◌&&◌, List, [], ◌∷◌, length, Option}
use Rattle.std.specs.List.{slice_get}
use Rattle.object.specs.declared.key.Key.{Key}
use Rattle.object_store.specs.Changes.{object_fits}
use Rattle.object_store.specs.Fit.{rooted}
use Rattle.object_store.specs.Objects.{Objects, keys_of}
use Rattle.object_store.specs.Tables.{has_file, Rising}

pub record Shelf : Type 0 where
  -- the map, without keys where there is none
  pub objects : Objects
  -- whether there is a map
  pub mapped : Bool
  -- the most keys that it may have
  pub limit : ℕ
  -- the file number that it tells as unused
  pub unused : ℕ
  -- whether numbers are spent
  pub spent : Bool
  -- whether it has a size that can be formatted
  pub sized : Bool
  -- whether its power never goes
  pub steady : Bool
  -- whether it has power, and has read its map since power came
  pub on : Bool

-- every part holds an object that it may hold
abbrev pub all_fit : Objects → Bool
all_fit [] = true
all_fit (o ∷ os) = object_fits o.key.part o.object && all_fit os

-- a number of 1 or more that no key of the map has
abbrev pub UnusedIn : Objects → ℕ → Type 0
UnusedIn os n = (1 ≤ n) × (has_file (keys_of os) n ≡ false)

-- keys rise, objects fit, chunks have entries; and with power on there is a map within its limit, of 208 at most, and a number to give
pub record Sound (s : Shelf) : Type 0 where
  pub rising : Rising (keys_of s.objects)
  pub fitted : all_fit s.objects ≡ true
  pub entries : rooted (keys_of s.objects) ≡ true
  pub has_map : s.on ≡ true → s.mapped ≡ true
  pub few : s.on ≡ true → length s.objects ≤ s.limit
  pub small : s.on ≡ true → s.limit ≤ 208
  pub fresh : s.on ≡ true → UnusedIn s.objects s.unused

-- the key at an index
abbrev pub key_at : List Key → ℕ → Option Key
key_at ks i = slice_get ks i
