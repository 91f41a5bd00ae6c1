use Rattle.std.proofs.Common.{sym, ap, ◌∙◌}
use Rattle.inspect.specs.Counted.{widened_by}
use Rattle.inspect.proofs.Counting.{counted_erased, counted_spoilt, counted_data}
use Rattle.inspect.proofs.census.Census.add.Goals as goal

pub returns-in-Erased : goal.returns-in-Erased
returns-in-Erased c = λ pages. counted_erased pages c.args.page.now c.args.self.now (sym c.in-Erased.ensures)

pub returns-in-Spoilt : goal.returns-in-Spoilt
returns-in-Spoilt c = λ pages. counted_spoilt pages c.args.page.now c.args.self.now (sym c.in-Spoilt.ensures)

pub returns-in-Data : goal.returns-in-Data
returns-in-Data c =
    λ pages. counted_data pages c.args.page.now c.args.self.now c.widened.result (sym c.in-Data.ensures) (c.widened.ensures ∙ ap (widened_by c.args.self.now.numbers) c.page_number.ensures)
