use Rattle.replay.proofs.Chips.{free_block_tells_nothing}
use Rattle.replay.proofs.laws.free_block_tells_nothing.Goals as goal

pub returns : goal.returns
returns c = free_block_tells_nothing
