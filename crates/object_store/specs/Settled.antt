-- The map after a batch, come to by another way: all removals first, then the keys that stay. On this way there are never more keys than in the end.
use Rattle.std.specs.Prelude.{◌≡◌, ℕ, ◌≤◌, cond, List, [], ◌∷◌, length, take, filter}
use Rattle.object.specs.Rank.{key_rank}
use Rattle.object_store.specs.declared.change.Change.{Change}
use Rattle.object_store.specs.declared.change.Change.TheVariants.{Set, Remove}
use Rattle.object_store.specs.declared.kept.Kept.{Kept}
use Rattle.object_store.specs.Changes.{removes}
use Rattle.object_store.specs.Counts.{stays}
use Rattle.object_store.specs.Objects.{Objects, put}

-- the map without the files that the batch removes
abbrev pub spared : List Change → Objects → Objects
spared cs os = filter (λ (o : Kept). stays cs o.key) os

-- the map with the key that a change sets, unless the batch removes its file
abbrev pub settle : List Change → Objects → Change → Objects
settle all os (Set k v) = cond (removes all k.file) os (put os k v)
settle all os (Remove f) = os

-- the map with the keys that the changes set and that stay
abbrev pub settled : List Change → Objects → List Change → Objects
settled all os [] = os
settled all os (c ∷ cs) = settled all (settle all os c) cs

-- the keys that the changes set are of a file and have a part up to 32
abbrev pub Placeable : List Change → Type 0
Placeable [] = Unit {0}
Placeable (Set k v ∷ cs) = (256 ≤ key_rank k) × (k.part ≤ 32) × Placeable cs
Placeable (Remove f ∷ cs) = Placeable cs

-- of a table the first n places hold this map now, unless it has more keys than the table has places
pub record HoldsNow (before : List Kept) (os : Objects) (n : ℕ) (after : List Kept) : Type 0 where
  pub long : length after ≡ length before
  pub is : length os ≤ length before → take n after ≡ os
  pub count : length os ≤ length before → n ≡ length os
