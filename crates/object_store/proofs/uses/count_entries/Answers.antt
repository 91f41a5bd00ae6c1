use Rattle.std.proofs.Common.{true, false, length, Ok, sym, ap, ◌∙◌, arith}
use lib.ListN.{length-map}
use Rattle.object_store.specs.Objects.{key_of, keys_of}
use Rattle.object_store.specs.Shelf.{key_at}
use Rattle.object_store.specs.Uses.{some_entry, entries_in}
use Rattle.object_store.proofs.Entries.{entries_more, entries_all, told_is, tells}
use Rattle.object_store.proofs.uses.count_entries.Goals as goal
use Rattle.object_store.proofs.uses.count_entries.Goals.{then-is_entry, else-is_entry}

pub loop-index-preserved : goal.loop-index-preserved
loop-index-preserved g c =
    let shelf = g.S.ObjectStore.shelf c.args.store.now in
    let ks = keys_of shelf.objects in
    let index = c.loop-index.index in
    let is = ap some_entry (told_is shelf (key_at ks index) c.in_ok-key.field-0 c.in_ok-key.ensures).1 in
    elim c.if-is_entry.branch [
      | then-is_entry w ↦ entries_more ks index c.loop-index.entries c.if-is_entry.entries true c.loop-index.invariant (w.if-is_entry.ensures ∙ is) w.entries-is
      | else-is_entry w ↦ entries_more ks index c.loop-index.entries c.if-is_entry.entries false c.loop-index.invariant (w.if-is_entry.ensures ∙ is) (omega (arith, w.entries-is))
    ]

pub returns : goal.returns
returns g c =
    let shelf = g.S.ObjectStore.shelf c.args.store.now in
    let ks = keys_of shelf.objects in
    let count = told_is shelf (length shelf.objects) c.in_ok-index-end.index-end c.in_ok-index-end.ensures in
    let long = length-map shelf.objects key_of in
    ap Ok (entries_all ks c.loop-index.index c.loop-index.entries (omega (arith, long, count.1, c.loop-index-test.false)) c.loop-index.invariant) ∙ sym (tells shelf (entries_in ks) count.0)
