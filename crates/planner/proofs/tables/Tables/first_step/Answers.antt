use Rattle.planner.specs.Steps.{state}
use Rattle.planner.proofs.Finding.{rest_free}
use Rattle.planner.proofs.Choosing.{room_left}
use Rattle.planner.proofs.tables.Tables.first_step.Goals as goal

pub returns-then-has_left : goal.returns-then-has_left
returns-then-has_left c =
    let t = c.args.self.now in
    room_left t c.args.g c.requires.some (c.has_left.ensures.0 c.if-has_left.true) (rest_free t.phase (state t) t.spare c.requires.rest)

pub unreachable-requires : goal.unreachable-requires
unreachable-requires c =
    let t = c.args.self.now in
    let f = rest_free t.phase (state t) t.spare c.requires.rest in
    c.in-None.ensures f.0 f.1
