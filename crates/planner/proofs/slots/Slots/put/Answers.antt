use Rattle.std.proofs.Common.{◌<◌, refl, arith}
use Rattle.planner.specs.Slots.{listed}
use Rattle.planner.proofs.Firsts.{the_rising, the_narrow}
use Rattle.planner.proofs.Putting.{puts, puts_narrow}
use Rattle.planner.proofs.slots.Slots.put.Goals as goal

pub invariant_of-self : goal.invariant_of-self
invariant_of-self c =
    let s = c.args.self.now in
    let byte : c.args.slot.key.part < 256 = omega arith in
    record { narrow = ∣ puts_narrow (listed s) c.args.slot (the_rising s) (the_narrow s) byte 212 c.put.result _ c.put.ensures ∣₁ }

pub returns : goal.returns
returns c =
    let s = c.args.self.now in
    let byte : c.args.slot.key.part < 256 = omega arith in
    puts (listed s) c.args.slot (the_rising s) (the_narrow s) byte 212 refl c.put.result _ c.put.ensures
