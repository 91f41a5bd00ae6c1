-- What a table holds, and what becomes of an entry that is added to it.
use Rattle.std.specs.Prelude.{ℕ, List, Result}
use Rattle.lookup.specs.declared.sorted.Unplaced.{Unplaced}
use Rattle.lookup.specs.Rows.{rows}
use Rattle.lookup.specs.Sorts.{Enters, Rises}
use Rattle.tree.specs.declared.node.Node.{Node}
use Rattle.tree.specs.declared.table.Tree.{Tree}

-- the entries of a table, in its order
abbrev pub nodes_of : Tree → List Node
nodes_of t = rows t.nodes

-- the file number of an entry
abbrev pub file_of : Node → ℕ
file_of n = n.file

-- the file numbers rise, so no two entries have one
abbrev pub Rising : List Node → Type 0
Rising nodes = Rises file_of nodes

-- the new entry stands in its place among 60 at most; or another has its file number; or there are 60: then nothing changed
abbrev pub Adds : List Node → Node → Result (Unit {0}) Unplaced → List Node → Type 0
Adds before new r after = Enters file_of 60 before new r after
