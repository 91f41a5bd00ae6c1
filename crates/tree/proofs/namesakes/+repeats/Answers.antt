use Rattle.tree.proofs.Sharing.{decided_first, decided_rest}
use Rattle.tree.proofs.namesakes.+repeats.Goals as goal

pub returns-then-has_like : goal.returns-then-has_like
returns-then-has_like t c = decided_first c.has_like.result c.args.nodes.now _ c.in-len1-up.len_at_least c.if-has_like.true c.has_like.ensures

pub returns-else-has_like : goal.returns-else-has_like
returns-else-has_like t c = decided_rest c.has_like.result c.repeats.result c.args.nodes.now _ c.in-len1-up.len_at_least c.if-has_like.false c.has_like.ensures c.repeats.ensures
