use Rattle.tree.specs.Table.{nodes_of}
use Rattle.tree.specs.Tree.{Among}
use Rattle.tree.proofs.Ordered.{one_entry}
use Rattle.tree.proofs.Paths.{stands_back}
use Rattle.listing.proofs.paths.directory_of.Goals as goal

-- an entry that stands below the root has a directory
pub returns-in_err-entry : goal.returns-in_err-entry
returns-in_err-entry c =
    let t = c.args.tree.now in
    let node = c.args.node.now in
    let above = (stands_back (Among (nodes_of t)) (one_entry (nodes_of t) t.nodes.rising) c.args.names node.file node.entry c.requires.there c.if-file-eq0.false c.requires.stands).0 in
    absurd (c.in_err-entry.ensures above.0 above.1)
