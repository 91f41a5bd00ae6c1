use Rattle.object_store.proofs.Lending.{judged}
use Rattle.object_store.proofs.table_store.TableStore.judge.Goals as goal

pub returns : goal.returns
returns c =
    let s = c.args.self.now in
    judged s.places.now s.len c.args.changes.now c.requires c.map-map.result.now c.map-map.ensures c.room.result c.lowest_unused.result c.room.ensures c.lowest_unused.ensures c.judge.result c.judge.ensures
