use Rattle.std.proofs.Common.{length}
use Rattle.tree.proofs.namesakes.+repeats.Given as goal

abbrev pub decreases-repeats : goal.decreases-repeats
decreases-repeats l = length l.nodes.now
