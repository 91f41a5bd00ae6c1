use Rattle.std.proofs.Common.{subst}
use borrow.Author.Tests.{both_ways}
use Rattle.replay.specs.Gathered.{Gathers}
use Rattle.replay.proofs.Gathering.{from_no_part, from_part}
use Rattle.replay.proofs.group.Group.take.Goals as goal

pub returns-then-not-follows : goal.returns-then-not-follows
returns-then-not-follows c =
    λ pages gathers.
    from_part c.args.page.now pages c.start.result c.in-Part.last c.in-Part.next c.in-Part.size c.start.ensures
    (λ f. both_ways c.follows.result c.if-not-follows.true (c.follows.ensures.1 f))
    (subst (Gathers pages) c.in-Part.is gathers)

pub returns-in-Idle : goal.returns-in-Idle
returns-in-Idle c = λ pages. from_no_part c.args.page.now pages c.args.self.now c.start-in-Idle.result c.in-Idle.is c.start-in-Idle.ensures
