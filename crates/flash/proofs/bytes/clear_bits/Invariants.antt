use Rattle.std.proofs.Common.{◌≡◌, ◌++◌, take, drop}
use Rattle.flash.specs.Chip.{cleared}
use Rattle.flash.proofs.bytes.clear_bits.Given as goal

abbrev pub invariant-loop-k : goal.invariant-loop-k
invariant-loop-k l = l.cells ≡ cleared (take l.k l.initial.cells) l.given ++ drop l.k l.initial.cells
