-- The listing of a chip.
use Rattle.std.specs.Prelude.{◌≡◌, ℕ, ◌<◌, ◌≤◌, true, List, ◌++◌, length, drop, Ok, Err, Result, slice_index}
use Rattle.flash.specs.Chip.{Chip}
use Rattle.page.specs.declared.fields.Entry.{Entry}
use Rattle.replay.specs.declared.fault.ReplayFault.{ReplayFault}
use Rattle.replay.specs.declared.fault.ReplayFault.TheVariants.{WorkPage, Buffer, Blocks, Flash, Empty, Damaged}
use Rattle.replay.specs.Damage.{Damage, FewBlocks, Scans}
use Rattle.replay.specs.Entries.{EntryShown}
use Rattle.replay.specs.Log.{LogOf, Logged, floor_of, Counts, Top}
use Rattle.tree.specs.Tree.{Entries}
use Rattle.listing.specs.Listing.{Lines}

-- the numbers of the files that have an entry, each once, in rising order
pub record FilesOf (E : Entries) (files : List ℕ) : Type 0 where
  pub rising : (i j : ℕ) → i < j → j < length files → slice_index files i < slice_index files j
  pub each : (i : ℕ) → i < length files → (e : Entry) × E (slice_index files i) e
  pub all : (file : ℕ) (e : Entry) → E file e → (i : ℕ) × (i < length files) × (slice_index files i ≡ file)

-- the text has a line for each file and directory that the chip shows, by rising file number
pub record ListingOf (c : Chip) (text : List ℕ) : Type 0 where
  pub top : Logged
  pub is_top : Top (LogOf c) top
  pub files : List ℕ
  pub files_of : FilesOf (EntryShown (Counts (LogOf c) (floor_of top))) files
  pub lines : Lines (EntryShown (Counts (LogOf c) (floor_of top))) files text

-- what listing a chip answers, and what the buffer holds before and after
abbrev pub ListsChip : Chip → List ℕ → Result ℕ ReplayFault → List ℕ → Type 0
ListsChip c before (Ok n) after =
    (12480 ≤ length before) × FewBlocks c × (c.on ≡ true) × (Damage c → ⊥)
    × ((text : List ℕ) × ListingOf c text × (n ≡ length text) × (after ≡ text ++ drop (length text) before))
ListsChip c before (Err WorkPage) after = ⊥
ListsChip c before (Err Buffer) after = (length before < 12480) × (after ≡ before)
ListsChip c before (Err Blocks) after = (12480 ≤ length before) × Scans c (Err Blocks) × (after ≡ before)
ListsChip c before (Err (Flash report)) after = (12480 ≤ length before) × Scans c (Err (Flash report)) × (after ≡ before)
ListsChip c before (Err Empty) after = (12480 ≤ length before) × Scans c (Err Empty) × (after ≡ before)
ListsChip c before (Err Damaged) after = (12480 ≤ length before) × Scans c (Err Damaged) × (after ≡ before)
