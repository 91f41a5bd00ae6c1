-- What is wrong with entries that are no tree, and the tests that find it.
use Rattle.std.specs.Prelude.{◌≡◌, ℕ, ◌<◌, Bool, true, false, List, length, Some, None, Option, Ok, Err, Result, slice_index_or}
use Rattle.page.specs.declared.fields.Entry.{Entry}
use Rattle.page.specs.declared.fields.EntryKind.TheVariants.{Directory}
use Rattle.tree.specs.declared.node.Node.{Node}
use Rattle.tree.specs.declared.sound.TreeFault.{TreeFault}
use Rattle.tree.specs.declared.sound.TreeFault.TheVariants as fault
use Rattle.tree.specs.Tree.{Entries, DirectoryAt, Rooted, Unreached, Namesakes, Alike}

-- the directory with this file number, exactly where there is one
abbrev pub FindsDirectory : Entries → ℕ → Option Node → Type 0
FindsDirectory E file None = DirectoryAt E file → ⊥
FindsDirectory E file (Some n) = (n.file ≡ file) × E n.file n.entry × (n.entry.kind ≡ Directory)

-- every entry stands at a path, or one stands at none
abbrev pub Roots : Entries → Bool → Type 0
Roots E true = Rooted E
Roots E false = Unreached E

-- one of the nodes has the name and the directory of this entry
abbrev pub HasLike : List Node → Entry → Type 0
HasLike nodes entry = (j : ℕ) × (j < length nodes) × ((d : Node) → Alike entry (slice_index_or nodes j d).entry)

-- a later node has the name and the directory of the one at `at`
abbrev pub Repeated : List Node → ℕ → Type 0
Repeated nodes at = (j : ℕ) × (at < j) × (j < length nodes) × ((d : Node) → Alike (slice_index_or nodes at d).entry (slice_index_or nodes j d).entry)

-- some node has the name and the directory of a later one
abbrev pub Repeats : List Node → Type 0
Repeats nodes = (at : ℕ) × (at < length nodes) × Repeated nodes at

-- the first fault of the entries; none where they are a tree
abbrev pub Faults : Entries → Option TreeFault → Type 0
Faults E None = Rooted E × (Namesakes E → ⊥)
Faults E (Some fault.Unreached) = Unreached E
Faults E (Some fault.Namesakes) = Rooted E × Namesakes E

-- the entries are a tree, or this is their first fault
abbrev pub Checks : Entries → Result (Unit {0}) TreeFault → Type 0
Checks E (Ok _) = Faults E None
Checks E (Err why) = Faults E (Some why)
