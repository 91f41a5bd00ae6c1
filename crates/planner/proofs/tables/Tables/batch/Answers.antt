use Rattle.std.proofs.Common.{◌≡◌, ◌+◌, ◌<◌, length, Some, refl, rules, arith}
use Rattle.planner.specs.Slots.{listed}
use Rattle.planner.specs.State.{limit}
use Rattle.planner.proofs.Counts.{within, beyond, written_by}
use Rattle.planner.proofs.tables.Tables.batch.Goals as goal

pub returns : goal.returns
returns c =
    let may = c.in_ok-may_write.ensures in
    let h = c.in_ok-head.head in (
      record {
        some = may.0;
        few = may.1;
        room = may.2;
        fits = may.3;
        limited =
            within c.args.self.now c.args.pages.now h.block h.used (c.args.self.now.last + 1) c.written-after.result c.written-after.ensures
            (omega (arith, c.if-len-limit.false, c.len.ensures, c.limit.ensures));
      },
      c.commit.ensures,
    )

pub returns-then-len-limit : goal.returns-then-len-limit
returns-then-len-limit c =
    let t = c.args.self.now in
    let pages = c.args.pages.now in
    let may = c.in_ok-may_write.ensures in
    let h = c.in_ok-head.head in
    let after = c.written-after.result in
    let is : t.head ≡ Some h = search rules in
    let more : limit t.per t.blocks < length (listed after) = omega (arith, c.if-len-limit.true, c.len.ensures, c.limit.ensures) in (
      refl,
      λ can. omega (arith, more, can.limited (listed after) (written_by t pages h after is c.written-after.ensures)),
      (may.0, may.1, may.3, may.2, beyond t pages h.block h.used (t.last + 1) after c.written-after.ensures more),
    )
