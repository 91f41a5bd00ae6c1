use Rattle.std.proofs.Common.{◌≡◌, ℕ, length, subst, arith}
use Rattle.std.proofs.lemmas.List.{get_or_default}
use Rattle.tree.specs.Table.{nodes_of}
use Rattle.replay.specs.Entries.{EntriesAt}
use Rattle.replay.proofs.EntryTable.{entries_more}
use Rattle.replay.proofs.entries.read_tree.Goals as goal

pub loop-slot-preserved : goal.loop-slot-preserved
loop-slot-preserved g c =
    let slots = c.args.slots.now in
    let lt = c.loop-slot-test.true in
    entries_more (g.F.ReadFlash.chip c.args.powered.now.flash.now) slots c.loop-slot.slot-index lt c.requires.few c.requires.rising _ (λ d. get_or_default slots c.loop-slot.slot-index d _ lt) c.in_ok-entry.entry
    c.in_ok-entry.ensures (nodes_of c.loop-slot.tree) c.loop-slot.invariant c.add.result (nodes_of c.add.new.self) c.add.ensures

pub returns : goal.returns
returns g c =
    let e : c.loop-slot.slot-index ≡ length c.args.slots.now = omega (arith, c.loop-slot-test.false) in
    subst (λ (n : ℕ). EntriesAt (g.F.ReadFlash.chip c.args.powered.now.flash.now) c.args.slots.now n (nodes_of c.loop-slot.tree)) e c.loop-slot.invariant
