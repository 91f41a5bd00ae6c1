use Rattle.std.proofs.Common.{ℕ, false, Decides, rules, tests}
use Rattle.std.proofs.lemmas.Bool.{false≢true}
use Rattle.std.proofs.lemmas.Iterator.{cases_from_any, YieldsList-from_slice}
use Rattle.object.specs.declared.slot.Slot.{Slot}
use Rattle.tree.specs.Table.{nodes_of}
use Rattle.tree.specs.Tree.{Among}
use Rattle.replay.specs.Overrun.{Overruns}
use Rattle.tree.proofs.Deciding.{it_is_some}
use Rattle.replay.proofs.Nothing.{blank}
use Rattle.replay.proofs.overrun.has_overrun.Goals as goal

pub returns : goal.returns
returns c =
    let slots = c.args.slots.now in
    let P : Slot ℕ → Type 0 = λ s. Overruns (Among (nodes_of c.args.tree.now)) s.key in
    it_is_some P slots _ blank
    (cases_from_any _ _ _ P (λ s. P s → ⊥) c.any.ensures.ran (YieldsList-from_slice slots cc) (λ x q k. search (rules, tests))
    (λ x q k. let d : Decides false (P x.now) = search (rules, tests) in (search (rules, tests), λ p. false≢true (d.1 p))))
