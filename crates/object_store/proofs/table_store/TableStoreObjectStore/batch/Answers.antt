use Rattle.std.proofs.Common.{sym}
use Rattle.object_store.proofs.Lending.{passed, made_whole}
use Rattle.object_store.proofs.table_store.TableStoreObjectStore.batch.Goals as goal

pub make-requires-clause-order : goal.make-requires-clause-order
make-requires-clause-order c =
    let s = c.args.self.now in
    let fits = (passed s.places.now s.len c.args.changes.now c.requires (sym c.in_ok-judge.ensures)).fits in
    (fits.ordered, fits.placed)

pub returns-clause-whole : goal.returns-clause-whole
returns-clause-whole c =
    let s = c.args.self.now in
    let t = c.make.new.self in
    made_whole s.places.now s.len c.args.changes.now c.requires (sym c.in_ok-judge.ensures) t.len t.places.now c.make.ensures.after c.make.ensures.count c.make.ensures.long
