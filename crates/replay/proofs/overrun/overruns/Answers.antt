use Rattle.std.proofs.Common.{◌-◌, ◌*◌, ap, arith}
use Rattle.std.proofs.lemmas.Bool.{leb-true, le-leb}
use Rattle.page.specs.declared.fields.Entry.{Entry}
use Rattle.tree.specs.Table.{nodes_of}
use Rattle.tree.proofs.Deciding.{it_is_not}
use Rattle.tree.proofs.Ordered.{one_entry}
use Rattle.replay.proofs.overrun.overruns.Goals as goal

pub returns-in_default : goal.returns-in_default
returns-in_default c = it_is_not _ (λ o. c.in_default.ensures o.entry o.there)

pub returns-then-key-gt0 : goal.returns-then-key-gt0
returns-then-key-gt0 c =
    let k = c.args.key.now in
    let e = c.in-Some.entry in
    let tree = c.args.tree.now in (
      λ t. record { entry = e; there = c.in-Some.ensures; chunk = c.if-key-gt0.true; past = leb-true e.length ((k.part - 1) * 224) t },
      λ o. le-leb e.length ((k.part - 1) * 224)
          (let same = one_entry (nodes_of tree) tree.nodes.rising k.file e o.entry c.in-Some.ensures o.there in omega (arith, o.past, ap (λ (x : Entry). x.length) same)),
    )
