-- Chunks that start at or past the end of their file.
use Rattle.std.specs.Prelude.{ℕ, ◌-◌, ◌*◌, ◌<◌, ◌≤◌, List, length, slice_index_or}
use Rattle.object.specs.declared.key.Key.{Key}
use Rattle.object.specs.declared.value.Object.{Object}
use Rattle.page.specs.declared.fields.Entry.{Entry}
use Rattle.tree.specs.Tree.{Entries}
use Rattle.object.specs.declared.slot.Slot.{Slot}
use Rattle.replay.specs.Entries.{EntryShown}
use Rattle.replay.specs.Log.{Log, chunk_key, Shown}

-- the chunk with this index starts at index x 224 bytes; its file ends there or before
pub record Overrun (C : Log) : Type 0 where
  pub file : ℕ
  pub index : ℕ
  pub object : Object
  pub chunk : Shown C (chunk_key file index) object
  pub entry : Entry
  pub told : EntryShown C file entry
  pub past : entry.length ≤ index * 224

-- the same of a key and the entries of a table
pub record Overruns (E : Entries) (k : Key) : Type 0 where
  pub entry : Entry
  pub there : E k.file entry
  pub chunk : 0 < k.part
  pub past : entry.length ≤ (k.part - 1) * 224

-- and of a slot's key
abbrev pub OverrunIn : Entries → List (Slot ℕ) → Type 0
OverrunIn E slots = (i : ℕ) × (i < length slots) × ((d : Slot ℕ) → Overruns E (slice_index_or slots i d).key)
