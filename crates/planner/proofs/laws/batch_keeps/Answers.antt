use Rattle.planner.proofs.Batching.{batch_keeps}
use Rattle.planner.proofs.laws.batch_keeps.Goals as goal

pub returns : goal.returns
returns c = batch_keeps
