use Rattle.std.proofs.Common.{rules, tests}
use Rattle.std.proofs.lemmas.Fn.{filter_same}
use Rattle.lookup.specs.Rows.{rows}
use Rattle.planner.specs.Slots.{listed, Forgets}
use Rattle.planner.proofs.Firsts.{the_narrow}
use Rattle.planner.proofs.Forgetting.{elsewhere, kept_forgets, forgets_narrow}
use Rattle.planner.proofs.slots.Slots.forget.Goals as goal
use Rattle.planner.proofs.slots.Slots.forget.Goals.{After-retain}

left : (c : After-retain) → Forgets (listed c.args.self.now) c.args.file (rows c.retain.new.self)
left c =
    kept_forgets (listed c.args.self.now) c.args.file (rows c.retain.new.self) c.retain.new.self.rising
    (filter_same _ (elsewhere c.args.file) _ (λ x b f' k. search (rules, tests)) _ _ c.retain.ensures)

pub invariant_of-self : goal.invariant_of-self
invariant_of-self c =
    let s = c.args.self.now in
    record { narrow = ∣ forgets_narrow (listed s) (rows c.retain.new.self) c.args.file (left c) (the_narrow s) ∣₁ }

pub returns : goal.returns
returns c = left c.before
