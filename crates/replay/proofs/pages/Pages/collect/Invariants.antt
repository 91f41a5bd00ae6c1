use Rattle.std.proofs.Common.{◌≤◌, length}
use Rattle.lookup.specs.Rows.{rows}
use Rattle.replay.specs.Slots.{Collects}
use Rattle.replay.proofs.pages.Pages.collect.Given as goal

abbrev pub invariant-loop-i : goal.invariant-loop-i
invariant-loop-i g l = (length (rows l.slots) ≤ l.i) × Collects l.self.seen.now l.self.whole.now l.self.floor l.i (g.W.Wants.wanted l.wants) (rows l.slots)
