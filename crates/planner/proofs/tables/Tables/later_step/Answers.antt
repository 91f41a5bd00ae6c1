use Rattle.std.proofs.Common.{ℕ, ◌∙◌, rules}
use Rattle.std.proofs.lemmas.Bool.{both_ways}
use Rattle.planner.specs.State.{Free}
use Rattle.planner.specs.Steps.{state}
use Rattle.planner.proofs.Choosing.{room_left, next_none, next_one, some_spare}
use Rattle.planner.proofs.tables.Tables.later_step.Goals as goal

pub returns-in-One : goal.returns-in-One
returns-in-One c =
    room_left c.args.self.now c.args.g c.requires.group.0 (c.has_left.ensures.0 c.if-has_left.true) (some_spare (state c.args.self.now) c.spares.result c.spares.ensures c.in-One.is)

pub returns-in-One-3 : goal.returns-in-One-3
returns-in-One-3 c =
    next_one c.args.self.now c.requires.making c.args.g c.requires.group.1 c.copy_step.result c.copy_step.ensures _ (c.in-One-2.ensures).1
    (λ e. c.if-used-self.false (c.used.ensures ∙ e)) (λ l. both_ways c.has_left.result c.if-has_left.false (c.has_left.ensures.1 l))

pub returns-in-Nothing : goal.returns-in-Nothing
returns-in-Nothing c =
    let none : (b : ℕ) → Free (state c.args.self.now) b → ⊥ = search rules in
    next_none c.args.self.now c.requires.making c.args.g c.requires.group.1 c.copy_step-in-Nothing.result c.copy_step-in-Nothing.ensures none
