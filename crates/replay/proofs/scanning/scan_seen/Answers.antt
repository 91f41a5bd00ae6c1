use Rattle.std.proofs.Common.{◌≡◌, ℕ, ◌/◌, ◌<◌, get_or, Err, sym, refl, ap, ◌∙◌, subst, arith}
use borrow.Author.Tests.{both_ways}
use Rattle.std.proofs.lemmas.Result.{err_from_is_err_and}
use Rattle.lookup.specs.Rows.{rows}
use Rattle.tree.specs.Table.{nodes_of}
use Rattle.tree.specs.Tree.{Among}
use Rattle.replay.specs.Damage.{no_tree, ScansSeen}
use Rattle.replay.specs.Overrun.{OverrunIn}
use Rattle.replay.specs.Tops.{Tops}
use Rattle.replay.proofs.Answered.{within_blocks, damaged, damaged_keys, damaged_chunk, undamaged, scanned}
use Rattle.replay.proofs.Sensible.{small_parts, walkable}
use Rattle.replay.proofs.Topping.{block_tops}
use Rattle.replay.proofs.scanning.scan_seen.Goals as goal

pub mark-whole-requires-clause-walk : goal.mark-whole-requires-clause-walk
mark-whole-requires-clause-walk g c = walkable (g.F.ReadFlash.chip c.args.powered.now.flash.now) c.args.seen.now c.requires.remembers

pub returns-in_err-tree : goal.returns-in_err-tree
returns-in_err-tree g c =
    let chip = g.F.ReadFlash.chip c.args.powered.now.flash.now in
    let stop = c.in_err-tree.ensures in
    let back = err_from_is_err_and c.from_residual.result c.from_residual.ensures.1 in
    subst (ScansSeen chip) (sym (back.1 ∙ ap Err (back.2 ∙ stop.0))) (refl, damaged chip c.args.seen.now c.requires.remembers c.requires.sizes.0 (no_tree stop.1))

pub collect-requires-clause-small : goal.collect-requires-clause-small
collect-requires-clause-small g c = small_parts (g.F.ReadFlash.chip c.args.powered.now.flash.now) _ c.args.seen.now c.requires.remembers

pub returns-then-as_slice-key_limit : goal.returns-then-as_slice-key_limit
returns-then-as_slice-key_limit g c =
    let chip = g.F.ReadFlash.chip c.args.powered.now.flash.now in
    let many = damaged_keys chip c.args.seen.now c.requires.remembers c.requires.sizes.0 c.mark-whole.result c.mark-whole.ensures (nodes_of c.in_ok-tree.tree) c.in_ok-tree.ensures.0
    (rows c.collect.new.slots) c.collect.ensures c.as_slice.result.now c.as_slice.ensures in
    (refl, many (omega (arith, c.if-as_slice-key_limit.true, c.key_limit.ensures)))

pub returns-then-has_overrun : goal.returns-then-has_overrun
returns-then-has_overrun g c =
    let chip = g.F.ReadFlash.chip c.args.powered.now.flash.now in
    let past = damaged_chunk chip c.args.seen.now c.requires.remembers c.requires.sizes.0 c.mark-whole.result c.mark-whole.ensures (nodes_of c.in_ok-tree.tree) c.in_ok-tree.ensures.0
    (rows c.collect.new.slots) c.collect.ensures c.as_slice-2.result.now c.as_slice-2.ensures in
    (refl, past (c.has_overrun.ensures.0 c.if-has_overrun.true))

pub block_tops-requires-clause-inside : goal.block_tops-requires-clause-inside
block_tops-requires-clause-inside g c =
    let formed = g.F.ReadFlash.formed c.args.powered.now.flash.now in
    let chip = g.F.ReadFlash.chip c.args.powered.now.flash.now in
    let some : 0 < g.F.ReadFlash.per_block = omega (arith, g.F.ReadFlash.sixteen) in
    λ i d h. subst (λ (n : ℕ). (get_or c.args.seen.now i d).place / n < 16) (sym c.block_pages.ensures) (within_blocks chip c.args.seen.now c.requires.remembers _ formed some c.requires.few.1 i d h)

pub returns : goal.returns
returns g c =
    let chip = g.F.ReadFlash.chip c.args.powered.now.flash.now in
    let formed = g.F.ReadFlash.formed c.args.powered.now.flash.now in
    let xs = c.args.seen.now in
    let (shown, rooted, sound) = c.in_ok-tree.ensures in
    let slots = rows c.collect.new.slots in
    let nodes = nodes_of c.in_ok-tree.tree in
    let spaced : c.block_pages.result ≡ (g.F.ReadFlash.chip c.args.powered.now.flash.now).per_block = c.block_pages.ensures ∙ sym formed.spaced in
    let tops = block_tops chip xs c.requires.remembers (omega (arith, g.F.ReadFlash.sixteen, formed.spaced)) c.block_tops.result (subst (λ (n : ℕ). Tops xs n c.block_tops.result) spaced c.block_tops.ensures) in (
      scanned chip xs c.requires.remembers c.requires.sizes.0 c.mark-whole.result c.mark-whole.ensures nodes shown slots c.collect.ensures slots refl rooted _ refl refl refl refl
          (λ b h. tops b (omega (arith, c.requires.few.1))),
      undamaged chip xs c.requires.remembers c.requires.sizes.0 c.mark-whole.result c.mark-whole.ensures nodes shown slots c.collect.ensures c.as_slice.result.now c.as_slice.ensures sound
          (omega (arith, c.if-as_slice-key_limit.false, c.key_limit.ensures))
          (λ o. both_ways c.has_overrun.result c.if-has_overrun.false (c.has_overrun.ensures.1 (subst (OverrunIn (Among nodes)) (c.as_slice.ensures ∙ sym c.as_slice-2.ensures) o))),
    )
