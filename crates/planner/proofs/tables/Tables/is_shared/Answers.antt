use Rattle.std.proofs.Common.{◌≡◌, get_or, rules, tests}
use Rattle.std.proofs.lemmas.Iterator.{cases_from_any, YieldsList-from_slice}
use Rattle.planner.specs.Shape.{blank}
use Rattle.planner.specs.Slots.{listed}
use Rattle.planner.proofs.Slotted.{Where, some_slot}
use Rattle.planner.proofs.tables.Tables.is_shared.Goals as goal

pub returns : goal.returns
returns c =
    let s = c.args.self.now.slots in
    let slot = c.args.slot.now in
    some_slot s (λ k. ((get_or (listed s) k blank).key ≡ slot.key → ⊥) × ((get_or (listed s) k blank).place.block ≡ slot.place.block)) c.any.result
    (cases_from_any _ _ c.any.result (Where s _) (Where s _) c.any.ensures.ran (YieldsList-from_slice (listed s) cc) (λ x q k. search (rules, tests)) (λ x q k. search (rules, tests)))
