-- How a call may leave an object store.
use Rattle.std.specs.Prelude.{◌≡◌, true, false, ◌⊎◌, List}
use Rattle.object_store.specs.declared.change.Change.{Change}
use Rattle.object_store.specs.Objects.{Objects, after_batch}
use Rattle.object_store.specs.Shelf.{Shelf}

-- power is on, with this map, and what never changes is as it was
pub record Ready (s : Shelf) (os : Objects) (t : Shelf) : Type 0 where
  pub objects : t.objects ≡ os
  pub mapped : t.mapped ≡ true
  pub on : t.on ≡ true
  pub limit : t.limit ≡ s.limit
  pub sized : t.sized ≡ s.sized
  pub steady : t.steady ≡ s.steady

-- power is off; the map may be any, or none
pub record Lost (s t : Shelf) : Type 0 where
  pub on : t.on ≡ false
  pub limit : t.limit ≡ s.limit
  pub sized : t.sized ≡ s.sized
  pub steady : t.steady ≡ s.steady

-- it is not on, and its map is as it was
pub record Unmounted (s t : Shelf) : Type 0 where
  pub objects : t.objects ≡ s.objects
  pub mapped : t.mapped ≡ s.mapped
  pub lost : Lost s t

-- power went in a batch: the map is the old or the new one
pub record Cut (s : Shelf) (cs : List Change) (t : Shelf) : Type 0 where
  pub objects : (t.objects ≡ s.objects) ⊎ (t.objects ≡ after_batch s.objects cs)
  pub mapped : t.mapped ≡ true
  pub lost : Lost s t
