use Rattle.tree.proofs.table.Tree.+stands.Given as goal

abbrev pub decreases-stands : goal.decreases-stands
decreases-stands l = l.names
