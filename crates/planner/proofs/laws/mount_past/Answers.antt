use Rattle.planner.proofs.Mounting.{mount_past}
use Rattle.planner.proofs.laws.mount_past.Goals as goal

pub returns : goal.returns
returns c = mount_past
