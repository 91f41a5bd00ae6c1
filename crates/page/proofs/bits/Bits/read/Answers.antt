use Rattle.std.proofs.Common.{◌≡◌, ◌+◌, ◌^◌, suc, ap, add-one, arith}
use Rattle.page.proofs.BitLaws.{bit_below, field_more, room_for_bit}
use Rattle.page.proofs.bits.Bits.read.Goals as goal

pub overflow_mul-value : goal.overflow_mul-value
overflow_mul-value c = omega (arith, room_for_bit c.loop-i.value c.loop-i.i c.loop-i.invariant.1 (omega arith))

pub overflow_add-value : goal.overflow_add-value
overflow_add-value c =
    omega (arith, c.bit.ensures, bit_below c.args.page.now (c.args.self.at + c.loop-i.i), room_for_bit c.loop-i.value c.loop-i.i c.loop-i.invariant.1 (omega arith))

pub loop-i-preserved : goal.loop-i-preserved
loop-i-preserved c =
    let i = c.loop-i.i in
    let page = c.args.page.now in
    let from = c.args.self.at in
    let up : 2 ^ (i + 1) ≡ 2 ^ suc i = ap (λ k. 2 ^ k) (add-one i) in
    let b = bit_below page (from + i) in
    (omega (arith, field_more page from i, c.bit.ensures), omega (arith, c.bit.ensures))
