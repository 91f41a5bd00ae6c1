use Rattle.flash.proofs.Joining.{two, counted, read_not_admitted, read_first, read_second}
use Rattle.flash.proofs.joined.JoinedFlashReadFlash.read.Goals as goal

pub returns-in_err-admit : goal.returns-in_err-admit
returns-in_err-admit g c =
    let s = c.args.self.now in
    let t = two g.A.ReadFlash.sixteen g.B.ReadFlash.sixteen (g.A.ReadFlash.formed s.first) (g.B.ReadFlash.formed s.second) in
    read_not_admitted t c.is_on.ensures c.args.page _ c.in_err-admit.field-0.0 c.from_residual.result c.in_err-admit.ensures c.from_residual.ensures.1
    c.args.out.now (counted t g.A.ReadFlash.sixteen c.block_pages.ensures c.blocks-2.ensures)

pub returns-then-page-split : goal.returns-then-page-split
returns-then-page-split g c =
    let s = c.args.self.now in
    let t = two g.A.ReadFlash.sixteen g.B.ReadFlash.sixteen (g.A.ReadFlash.formed s.first) (g.B.ReadFlash.formed s.second) in
    read_first t c.is_on.ensures c.in_ok-admit.ensures.0 c.args.page c.args.out.now c.read.new.out c.read.result c.page_count-split.ensures c.if-page-split.true c.read.ensures

pub returns-else-page-split : goal.returns-else-page-split
returns-else-page-split g c =
    let s = c.args.self.now in
    let t = two g.A.ReadFlash.sixteen g.B.ReadFlash.sixteen (g.A.ReadFlash.formed s.first) (g.B.ReadFlash.formed s.second) in
    read_second t c.is_on.ensures c.in_ok-admit.ensures.0 c.args.page c.args.out.now c.read-else-page-split.new.out c.read-else-page-split.result
    (counted t g.A.ReadFlash.sixteen c.block_pages.ensures c.blocks-2.ensures) c.in_ok-admit.ensures.1 c.page_count-split.ensures c.if-page-split.false c.read-else-page-split.ensures
