use Rattle.std.proofs.Common.{◌+◌, get_or, ap, ◌∙◌, arith}
use lib.Bits.{bit_and}
use Rattle.std.proofs.Math.ListN.{set}
use Rattle.flash.proofs.Clearing.{cleared_more}
use Rattle.flash.proofs.bytes.clear_bits.Goals as goal

pub loop-k-preserved : goal.loop-k-preserved
loop-k-preserved c =
    let w = c.args.given.now in
    let k = c.loop-k.k in
    ap (λ ys. set ys k (bit_and (get_or ys k 0) (get_or w k 0))) c.loop-k.invariant ∙ cleared_more k (k + 1) c.args.cells.now w (omega arith) (omega arith) (omega arith)
