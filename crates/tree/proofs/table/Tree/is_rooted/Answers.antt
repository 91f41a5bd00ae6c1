use Rattle.std.proofs.Common.{rules, tests}
use Rattle.std.proofs.lemmas.Iterator.{cases_from_all, YieldsList-from_slice}
use Rattle.tree.specs.Table.{nodes_of}
use Rattle.tree.specs.Tree.{Among, Reached}
use Rattle.tree.proofs.Finding.{roots_of}
use Rattle.tree.proofs.table.Tree.is_rooted.Goals as goal

pub returns : goal.returns
returns c =
    let xs = nodes_of c.args.self.now in
    let E = Among xs in
    roots_of xs c.all.result
    (cases_from_all _ _ _ (λ n. E n.file n.entry → Reached E 8 n.file) (λ n. E n.file n.entry → Reached E 8 n.file → ⊥) c.all.ensures.ran (YieldsList-from_slice xs cc) (λ n q k. search (rules, tests)) (λ n q k. search (rules, tests)))
