use Rattle.std.proofs.Common.{refl, ◌∙◌, arith, length-set}
use Rattle.replay.proofs.Topping.{tops_on}
use Rattle.replay.proofs.Nothing.{nothing}
use Rattle.replay.proofs.tops.block_tops.Goals as goal

pub loop-page-preserved : goal.loop-page-preserved
loop-page-preserved c =
    let inv = c.loop-page.invariant in
    let i = c.loop-page.page-index in
    let inside = c.requires.inside i nothing c.loop-page-test.true in
    (length-set c.loop-page.tops _ _ ∙ inv.0, tops_on c.args.seen.now c.args.per_block i c.loop-page-test.true c.requires.rising c.loop-page.tops _ _ refl refl (omega (arith, inside, c.loop-page.invariant.0)) inv.1)
