use Rattle.flash.proofs.Joining.{two, erase_not_admitted, erase_first, erase_second}
use Rattle.flash.proofs.joined.JoinedFlashFlash.erase.Goals as goal

pub returns-in_err-admit : goal.returns-in_err-admit
returns-in_err-admit g c =
    let s = c.args.self.now in
    let t = two g.A.ReadFlash.sixteen g.B.ReadFlash.sixteen (g.A.ReadFlash.formed s.first) (g.B.ReadFlash.formed s.second) in
    erase_not_admitted t c.is_on.ensures c.args.block _ c.in_err-admit.field-0.0 c.from_residual.result c.in_err-admit.ensures c.from_residual.ensures.1 c.blocks-2.ensures

pub returns-then-block-split : goal.returns-then-block-split
returns-then-block-split g c =
    let s = c.args.self.now in
    let t = two g.A.ReadFlash.sixteen g.B.ReadFlash.sixteen (g.A.ReadFlash.formed s.first) (g.B.ReadFlash.formed s.second) in
    erase_first t c.is_on.ensures c.in_ok-admit.ensures.0 c.args.block (g.A.ReadFlash.chip c.erase.new.self) c.erase.result c.blocks-split.ensures c.if-block-split.true c.erase.ensures.says

pub returns-else-block-split : goal.returns-else-block-split
returns-else-block-split g c =
    let s = c.args.self.now in
    let t = two g.A.ReadFlash.sixteen g.B.ReadFlash.sixteen (g.A.ReadFlash.formed s.first) (g.B.ReadFlash.formed s.second) in
    erase_second t c.is_on.ensures c.in_ok-admit.ensures.0 c.args.block (g.B.ReadFlash.chip c.erase-else-block-split.new.self) c.erase-else-block-split.result c.retell.result
    c.blocks-2.ensures c.in_ok-admit.ensures.1 c.blocks-split.ensures c.if-block-split.false c.erase-else-block-split.ensures.says c.retell.ensures
