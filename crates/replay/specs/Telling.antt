-- Which page tells a key, and a table of all keys that are told.
use Rattle.std.specs.Prelude.{◌≡◌, ℕ, ◌<◌, List, length, slice_index_or}
use Rattle.object.specs.declared.key.Key.{Key}
use Rattle.object.specs.declared.value.Object.{Object}
use Rattle.object.specs.declared.slot.Slot.{Slot}
use Rattle.replay.specs.Log.{Log, Logged, number_of, entry_key, Gives, Shown}
use Rattle.replay.specs.Slots.{slot_rank}
use Rattle.replay.specs.Walks.{Newest}

-- of the pages C, p tells the key that object: it is the newest that speaks to the key, and the entry of the key's file is shown
pub record Telling (C : Log) (k : Key) (v : Object) (p : Logged) : Type 0 where
  pub newest : Newest C k p
  pub gives : Gives p k v
  pub entry : Object
  pub alive : Shown C (entry_key k.file) entry

-- the key with the page that tells it
abbrev pub slot_of : Key → Logged → Slot ℕ
slot_of k p = record { key = k; place = p.place; number = number_of p }

-- every key, and the keys of entries
abbrev pub AnyKey : Key → Type 0
AnyKey k = Unit {0}

abbrev pub EntryKey : Key → Type 0
EntryKey k = k.part ≡ 0

-- the slots are the keys of this kind that are told, each once, in rising order, with the place and the number of the page that tells it
pub record KeysTold (C : Log) (Kind : Key → Type 0) (slots : List (Slot ℕ)) : Type 0 where
  pub rising : (i j : ℕ) (d : Slot ℕ) → i < j → j < length slots → slot_rank (slice_index_or slots i d) < slot_rank (slice_index_or slots j d)
  pub each : (i : ℕ) (d : Slot ℕ) → i < length slots → (k : Key) × (v : Object) × (p : Logged) × Telling C k v p × Kind k × (slice_index_or slots i d ≡ slot_of k p)
  pub all : (k : Key) (v : Object) (p : Logged) → Telling C k v p → Kind k → (i : ℕ) × (i < length slots) × ((d : Slot ℕ) → slice_index_or slots i d ≡ slot_of k p)
