use Rattle.std.proofs.Common.{◌+◌}
use Rattle.planner.specs.Slots.{listed}
use Rattle.planner.specs.Written.{Written}
use Rattle.planner.proofs.batch.written.Given as goal

abbrev pub invariant-loop-j : goal.invariant-loop-j
invariant-loop-j l = Written (listed l.initial.slots) l.pages l.head.block l.head.used (l.last + 1) l.j (listed l.slots)
