use Rattle.object_store.proofs.Telling.{batch_has_keys}
use Rattle.object_store.proofs.laws.batch_has_keys.Goals as goal

pub returns : goal.returns
returns c = batch_has_keys
