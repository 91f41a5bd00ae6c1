use Rattle.planner.proofs.Mounting.{mount_keeps}
use Rattle.planner.proofs.laws.mount_keeps.Goals as goal

pub returns : goal.returns
returns c = mount_keeps
