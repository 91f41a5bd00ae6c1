use Rattle.std.proofs.Common.{◌∙◌, arith}
use Rattle.std.specs.Fn.{CalledAt}
use Rattle.lookup.proofs.Thinning.{rises_filtered}
use Rattle.lookup.proofs.table.Table.retain.Goals as goal

pub invariant_of-self : goal.invariant_of-self
invariant_of-self g c =
    let t = c.args.self.now in
    let left = c.retain-self.ensures in
    record {
      room = omega (arith, left.fewer, t.room);
      long = left.long ∙ t.long;
      rising = rises_filtered (CalledAt g.F.FnMut) c.args.keep g.R.Ranked.ranked _ _ t.rising left.kept;
    }
