use Rattle.std.proofs.Common.{rules}
use Rattle.planner.proofs.Putting.{ranks_at, moves, moves_narrow}
use Rattle.planner.proofs.slots.Slots.move_to.Goals as goal

pub invariant_of-self : goal.invariant_of-self
invariant_of-self c =
    record { narrow = ∣ moves_narrow c.args.self.now c.as_slice.result.now c.as_slice.ensures c.args.at c.requires c.args.place c.args.number _ c.replace.ensures ∣₁ }

pub replace-requires : goal.replace-requires
replace-requires c = (search rules, ranks_at c.args.self.now c.as_slice.result.now c.as_slice.ensures c.args.at c.requires c.args.place c.args.number)

pub returns : goal.returns
returns c = moves c.args.self.now c.as_slice.result.now c.as_slice.ensures c.args.at c.requires c.args.place c.args.number _ c.replace.ensures
