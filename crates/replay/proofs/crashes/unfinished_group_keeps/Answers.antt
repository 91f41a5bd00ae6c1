use Rattle.replay.proofs.Groups.{unfinished_group}
use Rattle.replay.proofs.crashes.unfinished_group_keeps.Goals as goal

pub returns : goal.returns
returns c = unfinished_group
