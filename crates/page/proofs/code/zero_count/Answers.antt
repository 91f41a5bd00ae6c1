use Rattle.std.proofs.Common.{drop, sum_by, ap, ◌∙◌, arith, length-drop}
use Rattle.std.proofs.lemmas.List.{take_all}
use Rattle.page.specs.Code.{zeros_of}
use Rattle.page.proofs.code.zero_count.Goals as goal

pub returns : goal.returns
returns c =
    c.zeros.ensures ∙ ap (sum_by zeros_of) (take_all 254 (drop 2 c.args.page.now) (simp length-drop (omega arith)))
