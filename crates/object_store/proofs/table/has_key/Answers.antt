use Rattle.std.proofs.Common.{◌∙◌}
use Rattle.object_store.proofs.Finding.{found_has}
use Rattle.object_store.proofs.table.has_key.Goals as goal

pub returns : goal.returns
returns g c = c.is_some.ensures ∙ found_has g.R.Keyed.keyed c.args.key.now c.args.table.now c.find.result c.find.ensures
