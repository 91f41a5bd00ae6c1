use Rattle.planner.specs.Steps.{state, work}
use Rattle.planner.proofs.Rounds.{Going}
use Rattle.planner.proofs.tables.Tables.make_room.Given as goal

abbrev pub invariant-loop-block : goal.invariant-loop-block
invariant-loop-block l = Going l.initial.self l.g l.self

abbrev pub decreases-loop-block : goal.decreases-loop-block
decreases-loop-block l = work l.self.phase (state l.self) l.g
