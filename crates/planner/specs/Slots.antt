-- What the slots hold, and how a key is told or forgotten.
use Rattle.std.specs.Prelude.{◌≡◌, ℕ, ◌+◌, ◌<◌, ◌≤◌, Ok, Err, Result, ◌⊎◌, List, length, ◌≢◌, slice_index_or}
use Rattle.lookup.specs.Rows.{rows}
use Rattle.lookup.specs.declared.sorted.Unplaced.{Unplaced}
use Rattle.lookup.specs.declared.sorted.Unplaced.TheVariants.{Taken, Full}
use Rattle.planner.specs.Order.{Slot, Rising}
use Rattle.planner.specs.declared.slots.Slots.{Slots}

-- the slots in use
abbrev pub listed : Slots → List Slot
listed s = rows s.table

-- x is one of the slots
abbrev pub Holds : List Slot → Slot → Type 0
Holds xs x = (i : ℕ) × (i < length xs) × ((d : Slot) → slice_index_or xs i d ≡ x)

-- the key is told by the new slot, and all other keys as before
pub record Put (xs : List Slot) (new : Slot) (ys : List Slot) : Type 0 where
  pub rising : Rising ys
  pub here : Holds ys new
  pub kept : (x : Slot) → Holds xs x → (x.key ≢ new.key) → Holds ys x
  pub only : (x : Slot) → Holds ys x → (x ≡ new) ⊎ (Holds xs x × (x.key ≢ new.key))
  pub long : length ys ≤ length xs + 1

-- the new slot is put, or the key is new and all 212 places are taken
abbrev pub Puts : List Slot → Slot → Result (Unit {0}) Unplaced → List Slot → Type 0
Puts xs new (Ok _) ys = Put xs new ys
Puts xs new (Err Taken) ys = ⊥
Puts xs new (Err Full) ys = (ys ≡ xs) × (length xs ≡ 212) × ((x : Slot) → Holds xs x → x.key ≢ new.key)

-- the keys of the file are gone, and all others are told as before
pub record Forgets (xs : List Slot) (file : ℕ) (ys : List Slot) : Type 0 where
  pub rising : Rising ys
  pub kept : (x : Slot) → Holds xs x → (x.key.file ≢ file) → Holds ys x
  pub only : (x : Slot) → Holds ys x → Holds xs x × (x.key.file ≢ file)
  pub short : length ys ≤ length xs
