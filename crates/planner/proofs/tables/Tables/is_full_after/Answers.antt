use Rattle.std.proofs.Common.{◌≡◌, length, arith}
use Rattle.std.proofs.lemmas.Bool.{ltb-true, lt-ltb}
use Rattle.planner.specs.Slots.{listed}
use Rattle.planner.proofs.Counts.{same_count}
use Rattle.planner.proofs.tables.Tables.is_full_after.Goals as goal

pub returns : goal.returns
returns c l xs ys b u n alike w =
    let t = c.args.self.now in
    let pages = c.args.pages.now in
    let after = c.written-after.result in
    let count : length (listed after) ≡ length ys
    = same_count (listed t.slots) xs alike pages (length pages) 0 0 1 b u n (listed after) ys c.written-after.ensures w in (
      λ e. omega (arith, ltb-true c.limit.result c.len.result e, count, c.len.ensures, c.limit.ensures),
      λ h. lt-ltb c.limit.result c.len.result (omega (arith, h, count, c.len.ensures, c.limit.ensures)),
    )
