use Rattle.std.proofs.Common.{List, get_or, None, sym, subst}
use Rattle.tree.specs.declared.node.Node.{Node}
use Rattle.tree.specs.Table.{nodes_of}
use Rattle.tree.specs.Tree.{Among, Gets}
use Rattle.tree.proofs.Finding.{entry_found, none_found}
use Rattle.tree.proofs.Ordered.{nothing}
use Rattle.tree.proofs.table.Tree.get.Goals as goal

pub returns-in_err-at : goal.returns-in_err-at
returns-in_err-at c =
    subst (Gets (Among (nodes_of c.args.self.now)) c.args.file) (sym c.from_residual.ensures)
    (subst (λ (ys : List Node). Gets (Among ys) c.args.file None) c.nodes-nodes.ensures (none_found c.nodes-nodes.result.now c.args.file c.in_err-at.ensures))

pub returns : goal.returns
returns c =
    let xs = c.nodes-nodes.result.now in
    let found = c.in_ok-at.ensures in
    subst (λ (ys : List Node). Among ys c.args.file (get_or xs c.in_ok-at.at nothing).entry) c.nodes-nodes.ensures (entry_found xs c.in_ok-at.at c.args.file found.0 found.1)
