use Rattle.std.proofs.Common.{rules}
use Rattle.object_store.proofs.Making.{way_on, way_done}
use Rattle.object_store.proofs.Nothing.{no_change}
use Rattle.object_store.proofs.table_store.TableStore.make.Goals as goal

pub loop-change-preserved : goal.loop-change-preserved
loop-change-preserved c =
    let s = c.args.self.now in
    let now = c.loop-change.self in
    way_on c.args.changes.now s.places.now s.len c.requires.rising c.requires.order.0 c.requires.order.1 c.requires.room
    c.drop_removed-self.result c.drop_removed-self.new.records (c.drop_removed-self.ensures.spares s.within) c.loop-change.change-index now.len now.places.now no_change
    c.loop-change-test.true c.loop-change.invariant c.settle.new.self.len c.settle.new.self.places.now c.settle.ensures

pub returns-clause-after : goal.returns-clause-after
returns-clause-after c =
    let s = c.args.self.now in
    (way_done c.args.changes.now s.places.now s.len c.requires.rising c.requires.order.0 c.requires.order.1 c.requires.room
    c.drop_removed-self.result c.drop_removed-self.new.records (c.drop_removed-self.ensures.spares s.within) c.loop-change.change-index c.loop-change.self.len c.loop-change.self.places.now (search rules) c.loop-change.invariant).0

pub returns-clause-count : goal.returns-clause-count
returns-clause-count c =
    let s = c.args.self.now in
    (way_done c.args.changes.now s.places.now s.len c.requires.rising c.requires.order.0 c.requires.order.1 c.requires.room
    c.drop_removed-self.result c.drop_removed-self.new.records (c.drop_removed-self.ensures.spares s.within) c.loop-change.change-index c.loop-change.self.len c.loop-change.self.places.now (search rules) c.loop-change.invariant).1
