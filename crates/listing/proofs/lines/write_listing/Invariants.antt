use Rattle.std.proofs.Common.{ℕ, ◌*◌, ◌≤◌, List, map, length, take}
use Rattle.tree.specs.Table.{file_of, nodes_of}
use Rattle.tree.specs.Tree.{Among}
use Rattle.listing.specs.Listing.{Lines}
use Rattle.listing.specs.Writes.{Adds}
use Rattle.listing.proofs.lines.write_listing.Given as goal

abbrev pub invariant-loop-node : goal.invariant-loop-node
invariant-loop-node l =
    (text : List ℕ) × Lines (Among (nodes_of l.tree)) (map file_of (take l.node-index (nodes_of l.tree))) text × (length text ≤ 208 * l.node-index) × Adds l.initial.pen text l.pen
