use Rattle.replay.proofs.Groups.{finished_group}
use Rattle.replay.proofs.crashes.finished_group_puts.Goals as goal

pub returns : goal.returns
returns c = finished_group
