use Rattle.flash.proofs.Joining.{two, program_not_admitted, program_first, program_second}
use Rattle.flash.proofs.joined.JoinedFlashFlash.program.Goals as goal

pub returns-in_err-admit : goal.returns-in_err-admit
returns-in_err-admit g c =
    let s = c.args.self.now in
    let t = two g.A.ReadFlash.sixteen g.B.ReadFlash.sixteen (g.A.ReadFlash.formed s.first) (g.B.ReadFlash.formed s.second) in
    program_not_admitted t c.is_on.ensures c.args.page _ c.in_err-admit.field-0.0 c.from_residual.result c.in_err-admit.ensures c.from_residual.ensures.1
    c.args.bytes.now c.page_count.ensures

pub returns-then-page-split : goal.returns-then-page-split
returns-then-page-split g c =
    let s = c.args.self.now in
    let t = two g.A.ReadFlash.sixteen g.B.ReadFlash.sixteen (g.A.ReadFlash.formed s.first) (g.B.ReadFlash.formed s.second) in
    program_first t c.is_on.ensures c.in_ok-admit.ensures.0 c.args.page c.args.bytes.now (g.A.ReadFlash.chip c.program.new.self) c.program.result
    c.page_count-split.ensures c.if-page-split.true c.program.ensures.says

pub returns-else-page-split : goal.returns-else-page-split
returns-else-page-split g c =
    let s = c.args.self.now in
    let t = two g.A.ReadFlash.sixteen g.B.ReadFlash.sixteen (g.A.ReadFlash.formed s.first) (g.B.ReadFlash.formed s.second) in
    program_second t c.is_on.ensures c.in_ok-admit.ensures.0 c.args.page c.args.bytes.now (g.B.ReadFlash.chip c.program-else-page-split.new.self) c.program-else-page-split.result c.retell.result
    c.page_count.ensures c.in_ok-admit.ensures.1 c.page_count-split.ensures c.if-page-split.false c.program-else-page-split.ensures.says c.retell.ensures
