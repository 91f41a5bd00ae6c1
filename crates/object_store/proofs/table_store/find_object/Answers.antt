use Rattle.std.proofs.Common.{rules}
use Rattle.object_store.proofs.Finding.{found_through}
use Rattle.object_store.proofs.table_store.find_object.Goals as goal

pub returns : goal.returns
returns c = found_through c.args.map.now c.args.key.now c.find.result c.map.result _ (λ n v p. search rules) c.find.ensures c.map.ensures.cases
