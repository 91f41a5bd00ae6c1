use Rattle.object_store.proofs.Telling.{fit_batch_keeps_sound}
use Rattle.object_store.proofs.laws.fit_batch_keeps_sound.Goals as goal

pub returns : goal.returns
returns c = fit_batch_keeps_sound
