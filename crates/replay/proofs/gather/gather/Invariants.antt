use Rattle.std.proofs.Common.{◌≡◌, ◌<◌, ◌≤◌, true, length}
use Rattle.lookup.specs.Rows.{rows}
use Rattle.replay.specs.Remembers.{Remembers}
use Rattle.replay.proofs.gather.gather.Given as goal

abbrev pub invariant-loop-place : goal.invariant-loop-place
invariant-loop-place g l = record {
  page : length l.work ≡ 256;
  short : length (rows l.seen) ≤ l.place;
  remembers : Remembers (g.F.ReadFlash.chip l.flash) l.place (rows l.seen);
  powered : 0 < l.place → (g.F.ReadFlash.chip l.flash).on ≡ true;
}
