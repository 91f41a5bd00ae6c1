use Rattle.std.proofs.Common.{◌≡◌, ◌<◌, ◌≤◌, true, length}
use Rattle.std.specs.List.{between}
use Rattle.inspect.specs.Counted.{Counted}
use Rattle.inspect.proofs.census.inspect_pages.Given as goal

abbrev pub invariant-loop-place : goal.invariant-loop-place
invariant-loop-place g l =
    Counted (between l.first l.place (g.F.ReadFlash.chip l.flash).pages) l.census
    × (l.first < l.place → ((g.F.ReadFlash.chip l.flash).on ≡ true) × (l.place ≤ length (g.F.ReadFlash.chip l.flash).pages))
    × (l.end ≤ l.first → l.place ≡ l.first)
    × (length l.page ≡ 256)
