use Rattle.object_store.proofs.Telling.{same_told_same_map}
use Rattle.object_store.proofs.laws.same_told_same_map.Goals as goal

pub returns : goal.returns
returns c = same_told_same_map
