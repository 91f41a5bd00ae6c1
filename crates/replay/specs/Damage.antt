-- Which chips are damaged, and what reading any chip answers.
use Rattle.std.specs.Prelude.{◌≡◌, ℕ, ◌-◌, ◌*◌, ◌<◌, ◌≤◌, true, false, List, length, Ok, Err, Result, slice_index}
use Rattle.flash.specs.declared.fault.FlashFault.TheVariants.{Off}
use Rattle.flash.specs.Chip.{Chip}
use Rattle.lookup.specs.Rows.{rows}
use Rattle.tree.specs.declared.table.Tree.{Tree}
use Rattle.tree.specs.Table.{nodes_of}
use Rattle.tree.specs.Tree.{Rooted, Unreached, Namesakes}
use Rattle.replay.specs.declared.fault.ReplayFault.{ReplayFault}
use Rattle.replay.specs.declared.fault.ReplayFault.TheVariants.{WorkPage, Buffer, Blocks, Flash, Empty, Damaged}
use Rattle.object.specs.declared.slot.Slot.{Slot}
use Rattle.replay.specs.declared.tables.Scan.{Scan}
use Rattle.replay.specs.Entries.{EntryShown, TreeShown}
use Rattle.replay.specs.Laws.{DataAt}
use Rattle.replay.specs.Log.{Log, LogOf, Logged, number_of, floor_of, Counts, Top}
use Rattle.replay.specs.Overrun.{Overrun}
use Rattle.replay.specs.Remembers.{Unreadable, Twice}
use Rattle.replay.specs.Telling.{AnyKey, EntryKey, KeysTold}
use Rattle.replay.specs.Tops.{BlockTop}

-- the entries that the pages C show are no tree, or more than 60
pub data NoTree (C : Log) : Type 0 where
  unreached : Unreached (EntryShown C) → NoTree C
  namesakes : Namesakes (EntryShown C) → NoTree C
  many_entries : (slots : List (Slot ℕ)) → KeysTold C EntryKey slots → 60 < length slots → NoTree C

-- what the pages C show makes no sense
pub data Senseless (C : Log) (limit : ℕ) : Type 0 where
  no_tree : NoTree C → Senseless C limit
  overrun : Overrun C → Senseless C limit
  many_keys : (slots : List (Slot ℕ)) → KeysTold C AnyKey slots → limit < length slots → Senseless C limit

-- the most keys that a chip may tell
abbrev pub key_limit : Chip → ℕ
key_limit c = c.per_block * (c.blocks - 3)

-- a data page cannot be read, two have one number, or what is shown makes no sense
pub data Damage (c : Chip) : Type 0 where
  unreadable : Unreadable c → Damage c
  twice : Twice c → Damage c
  senseless : (t : Logged) → Top (LogOf c) t → Senseless (Counts (LogOf c) (floor_of t)) (key_limit c) → Damage c

-- the entries shown at the floor f, where they are a tree; no refusal but damage
abbrev pub Trees : Chip → ℕ → Result Tree ReplayFault → Type 0
Trees c f (Ok tree) = TreeShown (Counts (LogOf c) f) (nodes_of tree) × Rooted (EntryShown (Counts (LogOf c) f)) × (NoTree (Counts (LogOf c) f) → ⊥)
Trees c f (Err fault) = (fault ≡ Damaged) × NoTree (Counts (LogOf c) f)

-- the chip has 4 to 16 blocks
abbrev pub FewBlocks : Chip → Type 0
FewBlocks c = (4 ≤ c.blocks) × (c.blocks ≤ 16)

-- the keys of a scan, and each block's highest number
abbrev pub slots_of : Scan → List (Slot ℕ)
slots_of s = rows s.slots

abbrev pub tops_of : Scan → ℕ → ℕ
tops_of s b = slice_index s.tops b

-- the tables are what the chip tells
pub record Scanned (c : Chip) (s : Scan) : Type 0 where
  pub top : Logged
  pub is_top : Top (LogOf c) top
  pub floor : s.floor ≡ floor_of top
  pub highest : s.highest ≡ number_of top
  pub keys : KeysTold (Counts (LogOf c) (floor_of top)) AnyKey (slots_of s)
  pub entries : TreeShown (Counts (LogOf c) (floor_of top)) (nodes_of s.tree)
  pub rooted : Rooted (EntryShown (Counts (LogOf c) (floor_of top)))
  pub tops : (b : ℕ) → b < c.blocks → BlockTop c b (tops_of s b)

-- the same of a chip with data pages that can be read and have numbers of their own
abbrev pub ScansSeen : Chip → Result Scan ReplayFault → Type 0
ScansSeen c (Ok s) = Scanned c s × (Damage c → ⊥)
ScansSeen c (Err fault) = (fault ≡ Damaged) × Damage c

-- what reading a chip answers: refusals in the order of their numbers, and else its tables
abbrev pub Scans : Chip → Result Scan ReplayFault → Type 0
Scans c (Ok s) = FewBlocks c × (c.on ≡ true) × Scanned c s × (Damage c → ⊥)
Scans c (Err WorkPage) = ⊥
Scans c (Err Buffer) = ⊥
Scans c (Err Blocks) = FewBlocks c → ⊥
Scans c (Err (Flash report)) = FewBlocks c × (report ≡ Off) × (c.on ≡ false)
Scans c (Err Empty) = FewBlocks c × (c.on ≡ true) × ((q : ℕ) → DataAt c q → ⊥)
Scans c (Err Damaged) = FewBlocks c × (c.on ≡ true) × Damage c
