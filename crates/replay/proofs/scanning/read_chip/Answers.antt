use Rattle.std.proofs.Common.{◌≡◌, length, sym, ap, ◌∙◌}
use Rattle.std.proofs.lemmas.Bool.{eqb-true}
use Rattle.lookup.specs.Rows.{rows}
use Rattle.replay.proofs.Answered.{no_pages, scans_from, some_page}
use Rattle.replay.proofs.scanning.read_chip.Goals as goal

pub returns-then-is_empty-clause-answer : goal.returns-then-is_empty-clause-answer
returns-then-is_empty-clause-answer g c =
    let chip = g.F.ReadFlash.chip c.args.flash.now in
    let few = c.has_few_blocks.ensures.0 c.if-not-has_few_blocks.false in
    let on = c.in_ok-gather.ensures.power (some_page chip _ (g.F.ReadFlash.formed c.args.flash.now) g.F.ReadFlash.sixteen few.0) in
    let none : length (rows c.gather.new.seen) ≡ 0 = sym (ap length c.as_slice-seen.ensures) ∙ eqb-true _ 0 (sym c.is_empty.ensures ∙ c.if-is_empty.true) in
    (few, on, no_pages chip (rows c.gather.new.seen) none c.in_ok-gather.ensures.answer)

pub returns-clause-answer : goal.returns-clause-answer
returns-clause-answer g c =
    let chip = g.F.ReadFlash.chip c.args.flash.now in
    let few = c.has_few_blocks.ensures.0 c.if-not-has_few_blocks.false in
    let on = c.in_ok-gather.ensures.power (some_page chip _ (g.F.ReadFlash.formed c.args.flash.now) g.F.ReadFlash.sixteen few.0) in
    scans_from chip few on c.scan_seen.result c.scan_seen.ensures
