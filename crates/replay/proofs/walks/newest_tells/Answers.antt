use Rattle.replay.proofs.Newer.{newest_tells}
use Rattle.replay.proofs.walks.newest_tells.Goals as goal

pub returns : goal.returns
returns c = newest_tells
