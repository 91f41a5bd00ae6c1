use Rattle.std.proofs.Common.{◌≡◌, ℕ, ◌-◌, ◌*◌, ◌≤◌, List, [], ◌∷◌, ◌++◌, length, take, drop, sym, ap, ◌∙◌, subst, arith}
use native.Mathlib.Decide.{dec_le}
use Rattle.std.specs.List.{between}
use Rattle.std.proofs.lemmas.List.Edits.{between_more, length-between}
use Rattle.std.proofs.lemmas.List.Sums.{count_by-le-length}
use Rattle.flash.specs.Chip.{page}
use Rattle.flash.proofs.Filling.{filled_whole}
use Rattle.page.specs.declared.code.PageState.{PageState}
use Rattle.page.specs.declared.code.PageState.TheVariants.{Erased, Data, Spoilt}
use Rattle.page.specs.Code.{state_of}
use Rattle.inspect.specs.Counted.{Counted, in_state, same_state}
use Rattle.inspect.proofs.census.inspect_pages.Goals as goal

-- a state is that of no more pages than there are
at_most : (s : PageState) (pages : List (List ℕ)) → in_state s pages ≤ length pages
at_most s pages = count_by-le-length (λ page. same_state s (state_of page)) pages

pub add-requires : goal.add-requires
add-requires g c =
    let chip = g.F.ReadFlash.chip c.args.flash.now in
    let formed = g.F.ReadFlash.formed c.args.flash.now in
    let seen = between c.args.first c.loop-place.place chip.pages in
    let counted = c.loop-place.invariant.0 in
    let read = c.in_ok-read.ensures in
    let sixteen : length chip.pages ≡ 16 * chip.blocks = formed.paged ∙ ap (λ n. n * chip.blocks) g.F.ReadFlash.sixteen in
    let long = length-between chip.pages c.args.first c.loop-place.place (omega (arith, read.1)) in
    omega (arith, counted.data_pages, counted.spoilt_pages, counted.erased_pages, at_most Data seen, at_most Spoilt seen, at_most Erased seen, long, sixteen, formed.few, read.1)

pub loop-place-preserved : goal.loop-place-preserved
loop-place-preserved g c =
    let chip = g.F.ReadFlash.chip c.args.flash.now in
    let formed = g.F.ReadFlash.formed c.args.flash.now in
    let read = c.in_ok-read.ensures in
    let more = between_more chip.pages c.args.first c.loop-place.place [] (omega arith) read.1 in
    let added = c.add.ensures (between c.args.first c.loop-place.place chip.pages) c.loop-place.invariant.0 in (
      subst (λ ps. Counted ps c.add.new.self) (ap (λ q. between c.args.first c.loop-place.place chip.pages ++ q ∷ []) (read.2 ∙ filled_whole c.loop-place.page (page chip c.loop-place.place) (c.loop-place.invariant.3 ∙ sym (formed.wide c.loop-place.place read.1))) ∙ sym more) added,
      λ _. (read.0, omega (arith, read.1)),
      λ past. absurd (omega arith),
      c.read.auto.out ∙ c.loop-place.invariant.3,
    )

pub returns : goal.returns
returns g c =
    let chip = g.F.ReadFlash.chip c.args.flash.now in
    elim (dec_le c.args.first c.args.end) [
      | yes le ↦ (let e : c.loop-place.place ≡ c.args.end = omega arith in (
        subst (λ i. Counted (between c.args.first i chip.pages) c.loop-place.census) e c.loop-place.invariant.0,
        λ lt. let inv = c.loop-place.invariant.1 (omega arith) in (inv.0, omega (arith, inv.1)),
      ))
      | no gt ↦ (let none : c.loop-place.place - c.args.first ≡ c.args.end - c.args.first = omega (arith, c.loop-place.invariant.2 (omega arith)) in
          (subst (λ n. Counted (take n (drop c.args.first chip.pages)) c.loop-place.census) none c.loop-place.invariant.0, λ lt. absurd (omega arith)))
    ]
