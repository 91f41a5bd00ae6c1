use Rattle.std.proofs.Common.{refl, Err, sym, ap, ◌∙◌, subst}
use Rattle.std.proofs.lemmas.Result.{err_from_is_err_and}
use Rattle.tree.specs.Table.{nodes_of}
use Rattle.replay.specs.Damage.{many_entries, Trees}
use Rattle.replay.specs.Log.{LogOf, Counts}
use Rattle.replay.proofs.Sensible.{small_parts, all_rooted, fault_shown, tree_sound}
use Rattle.replay.proofs.Tied.{remembered_distinct}
use Rattle.replay.proofs.Told.{entries_in}
use Rattle.replay.proofs.TreeShown.{entry_places, entry_files, tree_shown}
use Rattle.replay.proofs.scanning.shown_tree.Goals as goal

pub collect-requires-clause-small : goal.collect-requires-clause-small
collect-requires-clause-small g c = small_parts (g.F.ReadFlash.chip c.args.powered.now.flash.now) _ c.args.pages.now.seen.now c.requires.remembers

pub returns-then-slots-gt-ENTRY_LIMIT : goal.returns-then-slots-gt-ENTRY_LIMIT
returns-then-slots-gt-ENTRY_LIMIT g c =
    let chip = g.F.ReadFlash.chip c.args.powered.now.flash.now in
    let told = entries_in chip _ c.requires.remembers _ c.requires.marks c.args.pages.now.floor _ _ c.as_slice-slots.ensures c.collect.ensures in
    (refl, many_entries c.as_slice-slots.result.now told c.if-slots-gt-ENTRY_LIMIT.true)

pub read_tree-requires-clause-entries : goal.read_tree-requires-clause-entries
read_tree-requires-clause-entries g c =
    let chip = g.F.ReadFlash.chip c.args.powered.now.flash.now in
    entry_places chip c.args.pages.now.floor c.as_slice-slots.result.now (entries_in chip _ c.requires.remembers _ c.requires.marks _ _ _ c.as_slice-slots.ensures c.collect.ensures)

pub read_tree-requires-clause-rising : goal.read_tree-requires-clause-rising
read_tree-requires-clause-rising g c =
    let chip = g.F.ReadFlash.chip c.args.powered.now.flash.now in
    entry_files chip c.args.pages.now.floor c.as_slice-slots.result.now (entries_in chip _ c.requires.remembers _ c.requires.marks _ _ _ c.as_slice-slots.ensures c.collect.ensures)

pub returns-in_err-check : goal.returns-in_err-check
returns-in_err-check g c =
    let chip = g.F.ReadFlash.chip c.args.powered.now.flash.now in
    let f = c.args.pages.now.floor in
    let told = entries_in chip _ c.requires.remembers _ c.requires.marks f _ _ c.as_slice-slots.ensures c.collect.ensures in
    let shown = tree_shown chip f c.as_slice-slots.result.now told (remembered_distinct chip _ c.requires.remembers) (nodes_of c.in_ok-tree.tree) c.in_ok-tree.ensures in
    let back = err_from_is_err_and c.from_residual-in_err-check.result c.from_residual-in_err-check.ensures.1 in
    subst (Trees chip f) (sym (back.1 ∙ ap Err back.2)) (refl, fault_shown (Counts (LogOf chip) f) (nodes_of c.in_ok-tree.tree) shown c.in_err-check.field-0.0 c.in_err-check.ensures)

pub returns : goal.returns
returns g c =
    let chip = g.F.ReadFlash.chip c.args.powered.now.flash.now in
    let f = c.args.pages.now.floor in
    let told = entries_in chip _ c.requires.remembers _ c.requires.marks f _ _ c.as_slice-slots.ensures c.collect.ensures in
    let nodes = nodes_of c.in_ok-tree.tree in
    let shown = tree_shown chip f c.as_slice-slots.result.now told (remembered_distinct chip _ c.requires.remembers) nodes c.in_ok-tree.ensures in (
      shown,
      all_rooted (Counts (LogOf chip) f) nodes shown c.in_ok-check.ensures,
      tree_sound (Counts (LogOf chip) f) nodes shown c.as_slice-slots.result.now told c.if-slots-gt-ENTRY_LIMIT.false c.in_ok-check.ensures,
    )
