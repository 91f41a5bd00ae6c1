use Rattle.std.proofs.Common.{rules, tests}
use Rattle.std.proofs.lemmas.Iterator.{cases_from_all, YieldsList-from_slice}
use Rattle.planner.specs.Mountable.{found, Agree}
use Rattle.planner.specs.Slots.{listed}
use Rattle.planner.proofs.Slotted.{Where, each_slot}
use Rattle.planner.proofs.scanned.Scanned.agrees.Goals as goal

pub returns : goal.returns
returns c j l is =
    let s = c.args.self.now.slots in
    each_slot s (Agree (found c.args.self.now) j) c.all.result
    (cases_from_all _ _ c.all.result (Where s _) (Where s _) c.all.ensures.ran (YieldsList-from_slice (listed s) cc) (λ x q k. search (rules, tests)) (λ x q k. search (rules, tests)))
