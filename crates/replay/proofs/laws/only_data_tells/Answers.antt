use Rattle.replay.proofs.Chips.{only_data_tells}
use Rattle.replay.proofs.laws.only_data_tells.Goals as goal

pub returns : goal.returns
returns c = only_data_tells
