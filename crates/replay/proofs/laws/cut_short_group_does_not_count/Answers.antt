use Rattle.replay.proofs.Chips.{cut_short_group_does_not_count}
use Rattle.replay.proofs.laws.cut_short_group_does_not_count.Goals as goal

pub returns : goal.returns
returns c = cut_short_group_does_not_count
