use Rattle.replay.proofs.Walking.{walk}
use Rattle.replay.proofs.walks.walk_shows.Goals as goal

pub returns : goal.returns
returns c = walk
