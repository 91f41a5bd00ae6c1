use Rattle.std.proofs.Common.{rules, tests}
use Rattle.std.proofs.lemmas.Iterator.{cases_from_any, YieldsList-from_slice}
use Rattle.tree.specs.Tree.{Alike}
use Rattle.tree.specs.declared.node.Node.{Node}
use Rattle.tree.proofs.Deciding.{it_is_some}
use Rattle.tree.proofs.Ordered.{nothing}
use Rattle.tree.proofs.namesakes.has_like.Goals as goal

pub returns : goal.returns
returns c =
    let entry = c.args.entry.now in
    it_is_some (λ (n : Node). Alike entry n.entry) c.args.nodes.now c.any.result nothing
    (cases_from_any _ _ _ (λ n. Alike entry n.entry) (λ n. Alike entry n.entry → ⊥) c.any.ensures.ran (YieldsList-from_slice c.args.nodes.now cc) (λ n q k. search (rules, tests)) (λ n q k. search (rules, tests)))
