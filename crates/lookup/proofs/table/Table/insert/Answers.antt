use Rattle.std.proofs.Common.{sym, ◌∙◌, subst, arith}
use Rattle.lookup.specs.Sorts.{Rises}
use Rattle.lookup.proofs.Insertion.{rising_inserted}
use Rattle.lookup.proofs.table.Table.insert.Goals as goal

pub invariant_of-self-2 : goal.invariant_of-self-2
invariant_of-self-2 g c =
    let t = c.args.self.now in
    let (room, long, put) = c.in_ok-insert_sorted.ensures in
    record {
      room = omega (arith, room, t.long);
      long = long ∙ t.long;
      rising = subst (Rises g.R.Ranked.ranked) (sym put.is) (rising_inserted _ c.args.new put.at put.within g.R.Ranked.ranked t.rising put.below put.above);
    }
