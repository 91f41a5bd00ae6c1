use Rattle.std.proofs.Common.{◌≡◌, length, Err, sym, ap, ◌∙◌, subst, arith}
use Rattle.std.proofs.lemmas.Result.{err_from_is_err_and}
use Rattle.lookup.specs.Rows.{rows}
use Rattle.page.specs.Decoded.{decoded}
use Rattle.replay.specs.Remembers.{GathersAll, Remembers}
use Rattle.replay.proofs.Reading.{read_whole}
use Rattle.replay.proofs.Remembering.{step_on, step_stops, read_fits}
use Rattle.replay.proofs.gather.gather.Goals as goal

pub take_in-requires-clause-fit : goal.take_in-requires-clause-fit
take_in-requires-clause-fit g c = read_fits c.read.new.out c.decode.result (sym c.decode.ensures)

pub loop-place-preserved : goal.loop-place-preserved
loop-place-preserved g c =
    let chip = g.F.ReadFlash.chip c.args.flash.now in
    let read = c.in_ok-read.ensures in
    let inv = c.loop-place.invariant in
    let whole = read_whole chip _ c.loop-place.place c.loop-place.work c.read.new.out (g.F.ReadFlash.formed c.args.flash.now) c.loop-place.invariant.page c.in_ok-read.ensures in
    let step = step_on chip c.loop-place.place (rows c.loop-place.seen) (rows c.take_in.new.seen) c.decode.result (ap decoded (sym whole) ∙ sym c.decode.ensures) read.1 inv.short inv.remembers
    c.in_ok-take_in.ensures in
    record { page = omega (arith, c.read.auto.out, c.loop-place.invariant.page); short = step.0; remembers = step.1; powered = λ some. read.0 }

pub returns-in_err-take_in-clause-answer : goal.returns-in_err-take_in-clause-answer
returns-in_err-take_in-clause-answer g c =
    let chip = g.F.ReadFlash.chip c.args.flash.now in
    let read = c.in_ok-read.ensures in
    let whole = read_whole chip _ c.loop-place.place c.loop-place.work c.read.new.out (g.F.ReadFlash.formed c.args.flash.now) c.loop-place.invariant.page c.in_ok-read.ensures in
    let stops = step_stops chip c.loop-place.place c.in_err-take_in.field-0.0 (rows c.loop-place.seen) (rows c.take_in.new.seen) c.decode.result (ap decoded (sym whole) ∙ sym c.decode.ensures) read.1
    c.loop-place.invariant.remembers c.in_err-take_in.ensures in
    let back = err_from_is_err_and c.from_residual-in_err-take_in.result c.from_residual-in_err-take_in.ensures.1 in
    subst (λ r. GathersAll chip r (rows c.take_in.new.seen)) (sym (back.1 ∙ ap Err (back.2 ∙ stops.0))) (read.0, stops.1)

pub returns-clause-answer : goal.returns-clause-answer
returns-clause-answer g c =
    let chip = g.F.ReadFlash.chip c.args.flash.now in
    let e : c.loop-place.place ≡ length (g.F.ReadFlash.chip c.args.flash.now).pages = omega arith in
    subst (λ n. Remembers chip n (rows c.loop-place.seen)) e c.loop-place.invariant.remembers
