use Rattle.std.proofs.Common.{◌≡◌, length}
use Rattle.replay.specs.declared.seen.Seen.{Seen}
use Rattle.replay.specs.Gathered.{Gathers}
use Rattle.replay.specs.Marks.{taken}
use Rattle.replay.proofs.Marking.{Marked}
use Rattle.replay.proofs.marks.mark.Given as goal

abbrev pub invariant-loop-i : goal.invariant-loop-i
invariant-loop-i l = Marked l.seen l.flags l.i × ((d : Seen) → Gathers (taken l.i l.seen d) l.group) × (length l.flags ≡ 256)
