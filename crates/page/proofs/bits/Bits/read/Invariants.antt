use Rattle.std.proofs.Common.{◌≡◌, ◌^◌, ◌<◌}
use Rattle.page.specs.Bits.{field}
use Rattle.page.proofs.bits.Bits.read.Given as goal

abbrev pub invariant-loop-i : goal.invariant-loop-i
invariant-loop-i l = (l.value ≡ field l.page l.self.at l.i) × (l.value < 2 ^ l.i)
