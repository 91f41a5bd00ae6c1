-- The entries that a chip shows, and a table of them.
use Rattle.std.specs.Prelude.{◌≡◌, ℕ, ◌<◌, List, length, Some, None, Ok, Err, Option, Result, slice_index_or}
use Rattle.flash.specs.Chip.{Chip, page}
use Rattle.object.specs.declared.value.Object.TheVariants as object
use Rattle.page.specs.declared.fields.Content.{Content}
use Rattle.page.specs.declared.fields.Content.TheVariants.{Note, Gone}
use Rattle.page.specs.declared.fields.Content.TheVariants as content
use Rattle.page.specs.declared.fields.Entry.{Entry}
use Rattle.page.specs.declared.fields.Page.{Page}
use Rattle.page.specs.declared.fields.PageFault.{PageFault}
use Rattle.page.specs.Decoded.{decoded}
use Rattle.tree.specs.declared.node.Node.{Node}
use Rattle.tree.specs.declared.table.Tree.{Tree}
use Rattle.tree.specs.Table.{nodes_of}
use Rattle.tree.specs.Tree.{Entries, Among}
use Rattle.replay.specs.declared.fault.ReplayFault.{ReplayFault}
use Rattle.object.specs.declared.slot.Slot.{Slot}
use Rattle.replay.specs.Log.{Log, entry_key, Shown}

-- the entries that the pages C show
abbrev pub EntryShown : Log → Entries
EntryShown C file e = Shown C (entry_key file) (object.Entry e)

-- the table holds just the entries that are shown
abbrev pub TreeShown : Log → List Node → Type 0
TreeShown C nodes = (file : ℕ) (e : Entry) → (Among nodes file e → EntryShown C file e) × (EntryShown C file e → Among nodes file e)

-- the entry that a page holds, and that was read
abbrev pub entry_of : Content → Option Entry
entry_of Note = None
entry_of (content.Entry e) = Some e
entry_of (content.Chunk k) = None
entry_of Gone = None

abbrev pub entry_read : Result Page PageFault → Option Entry
entry_read (Ok p) = entry_of p.content
entry_read (Err fault) = None

-- the page at this place is this entry
pub record EntryPage (c : Chip) (place : ℕ) (e : Entry) : Type 0 where
  pub says : Page
  pub within : place < length c.pages
  pub reads : decoded (page c place) ≡ Ok says
  pub entry : says.content ≡ content.Entry e

-- the page at this place is some entry
abbrev pub EntryPlace : Chip → ℕ → Type 0
EntryPlace c place = (e : Entry) × EntryPage c place e

-- the entry of the page, and no refusal
abbrev pub ReadsEntry : Chip → ℕ → Result Entry ReplayFault → Type 0
ReadsEntry c place (Ok e) = EntryPage c place e
ReadsEntry c place (Err fault) = ⊥

-- the files of the slots rise
abbrev pub RisingFiles : List (Slot ℕ) → Type 0
RisingFiles slots = (i j : ℕ) (d : Slot ℕ) → i < j → j < length slots → (slice_index_or slots i d).key.file < (slice_index_or slots j d).key.file

-- the nodes are the entries at the places of the first n slots, each under its slot's file
pub record EntriesAt (c : Chip) (slots : List (Slot ℕ)) (n : ℕ) (nodes : List Node) : Type 0 where
  pub count : length nodes ≡ n
  pub each : (file : ℕ) (e : Entry) → Among nodes file e → (i : ℕ) × (i < n) × ((d : Slot ℕ) → ((slice_index_or slots i d).key.file ≡ file) × EntryPage c (slice_index_or slots i d).place e)
  pub all : (i : ℕ) (d : Slot ℕ) (e : Entry) → i < n → EntryPage c (slice_index_or slots i d).place e → Among nodes (slice_index_or slots i d).key.file e

-- the tree of all of them, and no refusal
abbrev pub ReadsTree : Chip → List (Slot ℕ) → Result Tree ReplayFault → Type 0
ReadsTree c slots (Ok tree) = EntriesAt c slots (length slots) (nodes_of tree)
ReadsTree c slots (Err fault) = ⊥
