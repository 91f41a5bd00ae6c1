use Rattle.std.proofs.Common.{map, arith}
use lib.ListN.{length-map}
use Rattle.object_store.proofs.Verdicts.{few_changes, unfit, full, is_spent, passed}
use Rattle.object_store.proofs.check.judge.Goals as goal

pub returns-then-not-is_fit : goal.returns-then-not-is_fit
returns-then-not-is_fit g c = λ few rises entries os e.
    unfit os (map g.R.Keyed.keyed c.args.table.now) e c.args.limit c.args.unused c.args.spent c.args.changes.now rises entries c.if-not-is_fit.ensures

pub returns-then-limit-count_after : goal.returns-then-limit-count_after
returns-then-limit-count_after g c = λ few rises entries os e.
    (let ks = map g.R.Keyed.keyed c.args.table.now in
    let cs = c.args.changes.now in
    let long = length-map c.args.table.now g.R.Keyed.keyed in
    let sum = c.count_after.ensures (omega (arith, long)) (few_changes ks c.args.unused cs c.if-not-is_fit.ensures) in
    full os ks e c.args.limit c.args.unused c.args.spent cs rises entries c.if-not-is_fit.ensures (omega (arith, sum, c.if-limit-count_after.true)))

pub returns-then-spent : goal.returns-then-spent
returns-then-spent g c = λ few rises entries os e.
    (let ks = map g.R.Keyed.keyed c.args.table.now in
    let cs = c.args.changes.now in
    let long = length-map c.args.table.now g.R.Keyed.keyed in
    let sum = c.count_after.ensures (omega (arith, long)) (few_changes ks c.args.unused cs c.if-not-is_fit.ensures) in
    is_spent os ks e c.args.limit c.args.unused c.args.spent cs rises entries c.if-not-is_fit.ensures (omega (arith, sum, c.if-limit-count_after.false)) c.if-spent.true)

pub returns : goal.returns
returns g c = λ few rises entries os e.
    (let ks = map g.R.Keyed.keyed c.args.table.now in
    let cs = c.args.changes.now in
    let long = length-map c.args.table.now g.R.Keyed.keyed in
    let sum = c.count_after.ensures (omega (arith, long)) (few_changes ks c.args.unused cs c.if-not-is_fit.ensures) in
    passed os ks e c.args.limit c.args.unused c.args.spent cs rises entries c.if-not-is_fit.ensures (omega (arith, sum, c.if-limit-count_after.false)) c.if-spent.false)
