-- Slots in rising key order.
use Rattle.std.specs.Prelude.{ℕ, ◌<◌, List, length, get_or}
use Rattle.lookup.specs.Sorts.{Rises}
use Rattle.object.specs.Rank.{key_rank}
use Rattle.object.specs.declared.slot.Slot as kept
use Rattle.planner.specs.declared.slot.Place.{Place}

-- a key, and the page that tells it with that page's number
abbrev pub Slot : Type 0
Slot = kept.Slot Place

-- the place of a slot in the order: by file number, then by part
abbrev pub ranked : Slot → ℕ
ranked x = key_rank x.key

-- each slot ranks below the later ones
abbrev pub Rising : List Slot → Type 0
Rising xs = Rises ranked xs

-- each part fits its byte, so that no two keys have one rank
abbrev pub Narrow : List Slot → Type 0
Narrow xs = (i : ℕ) (d : Slot) → i < length xs → (get_or xs i d).key.part < 256
