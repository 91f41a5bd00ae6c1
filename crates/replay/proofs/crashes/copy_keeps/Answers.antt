use Rattle.replay.proofs.Copies.{copy}
use Rattle.replay.proofs.crashes.copy_keeps.Goals as goal

pub returns : goal.returns
returns c = copy
