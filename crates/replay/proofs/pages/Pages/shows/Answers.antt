use Rattle.std.proofs.Common.{◌≡◌, get_or, Some, Option, ap, ◌∙◌, sym, subst}
use borrow.Author.Tests.{both_ways}
use Rattle.std.proofs.lemmas.List.{get_or_default}
use Rattle.replay.specs.declared.seen.Says.{Says}
use Rattle.replay.specs.declared.seen.Says.TheVariants.{Sets}
use Rattle.replay.specs.declared.seen.Seen.{Seen}
use Rattle.replay.proofs.Nothing.{nothing}
use Rattle.replay.specs.Shows.{SaidTo}
use Rattle.replay.proofs.Collecting.{sets_same}
use Rattle.replay.proofs.pages.Pages.shows.Goals as goal
use Rattle.replay.proofs.pages.Pages.shows.Goals.{then-not-counts-via-then-not-counts, then-not-counts-via-else-not-counts+then-spoken_after}

pub returns-then-not-counts : goal.returns-then-not-counts
returns-then-not-counts c =
    let says : ◌≡◌ {A = Option Says} (get_or c.args.self.now.seen.now c.args.i nothing).says (Some (Sets c.in-Sets.key)) = c.in_ok-says.was ∙ ap Some c.in-Sets.is in
    λ k s. elim c.then-not-counts.branch [
      | then-not-counts-via-then-not-counts w ↦ both_ways c.counts.result w.if-not-counts.true (c.counts.ensures.1 s.counted)
      | then-not-counts-via-else-not-counts+then-spoken_after w ↦ (
          let (j, l, h, (counted, said)) = w.spoken_after.ensures.0 w.if-spoken_after.true in
          let same : c.in-Sets.key ≡ k = sets_same c.in-Sets.key k (sym says ∙ s.sets nothing) in
          s.newest j nothing l h counted (subst (SaidTo _) same (said nothing)))
    ]

pub returns : goal.returns
returns c =
    let says : ◌≡◌ {A = Option Says} (get_or c.args.self.now.seen.now c.args.i nothing).says (Some (Sets c.in-Sets.key)) = c.in_ok-says.was ∙ ap Some c.in-Sets.is in
    let xs = c.args.self.now.seen.now in
    record {
      counted = c.counts.ensures.0 c.if-not-counts.false;
      sets = λ d. ap (λ (s : Seen). s.says) (get_or_default xs c.args.i d nothing c.requires) ∙ says;
      newest = λ j d lt h counted said. both_ways c.spoken_after.result c.if-spoken_after.false
          (c.spoken_after.ensures.1 (j, lt, h, (counted, λ e. subst (λ (s : Seen). SaidTo s.says c.in-Sets.key) (get_or_default xs j d e h) said)));
    }
