use Rattle.object_store.proofs.Telling.{found_fits}
use Rattle.object_store.proofs.laws.found_fits.Goals as goal

pub returns : goal.returns
returns c = found_fits
