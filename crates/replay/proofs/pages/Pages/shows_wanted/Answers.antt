use Rattle.std.proofs.Common.{rules, tests}
use Rattle.replay.proofs.Collecting.{shows_filtered}
use Rattle.replay.proofs.pages.Pages.shows_wanted.Goals as goal

pub returns : goal.returns
returns g c =
    let pages = c.args.self.now in
    shows_filtered pages.seen.now pages.whole.now pages.floor (g.W.Wants.wanted c.args.wants.now) c.args.i _ _ (λ k b q. search (rules, tests)) c.shows.ensures c.filter.ensures
