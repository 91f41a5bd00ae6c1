use Rattle.object_store.proofs.Telling.{removal_is_told}
use Rattle.object_store.proofs.laws.removal_is_told.Goals as goal

pub returns : goal.returns
returns c = removal_is_told
