use Rattle.object_store.proofs.Telling.{set_is_told}
use Rattle.object_store.proofs.laws.set_is_told.Goals as goal

pub returns : goal.returns
returns c = set_is_told
