use Rattle.replay.proofs.Scratched.{scratch_erase}
use Rattle.replay.proofs.crashes.scratch_erase_keeps.Goals as goal

pub returns : goal.returns
returns c = scratch_erase
