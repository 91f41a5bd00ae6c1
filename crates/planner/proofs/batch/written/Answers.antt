use Rattle.std.proofs.Common.{◌≡◌, ◌+◌, length, get_or, subst, arith}
use Rattle.std.proofs.lemmas.List.{get_or_default}
use Rattle.planner.specs.Slots.{listed}
use Rattle.planner.specs.Written.{Written}
use Rattle.planner.proofs.Batches.{written_more}
use Rattle.planner.proofs.batch.written.Goals as goal

pub loop-j-preserved : goal.loop-j-preserved
loop-j-preserved c =
    let h = c.args.head in
    let pages = c.args.pages.now in
    let j = c.loop-j.j in
    written_more (listed c.args.slots) pages h.block h.used (c.args.last + 1) j (listed c.loop-j.slots) c.loop-j.invariant (get_or pages j _) (listed c.say.new.slots)
    (λ d. get_or_default pages j d _ c.loop-j-test.true) c.say.ensures

pub returns : goal.returns
returns c =
    let h = c.args.head in
    subst (λ m. Written (listed c.args.slots) c.args.pages.now h.block h.used (c.args.last + 1) m (listed c.loop-j.slots))
    (let e : c.loop-j.j ≡ length c.args.pages.now = omega arith in e) c.loop-j.invariant
