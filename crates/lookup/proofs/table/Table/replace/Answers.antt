use Rattle.std.proofs.Common.{◌<◌, take, sym, ◌∙◌, subst, arith}
use Rattle.std.proofs.lemmas.List.{length-take-le, length-set}
use Rattle.std.proofs.Math.Seq.{take-set-lt}
use Rattle.lookup.specs.Sorts.{Rises}
use Rattle.lookup.proofs.Putting.{rises_set}
use Rattle.lookup.proofs.table.Table.replace.Goals as goal

pub invariant_of-self : goal.invariant_of-self
invariant_of-self g c =
    let t = c.args.self.now in
    let at = c.args.at in
    let less : at < t.len = omega (arith, c.requires.0, length-take-le t.len t.records (omega (arith, t.room, t.long))) in
    record {
      room = t.room;
      long = length-set t.records at c.args.new ∙ t.long;
      rising = subst (Rises g.R.Ranked.ranked) (sym (take-set-lt t.len t.records at c.args.new less))
          (rises_set g.R.Ranked.ranked (take t.len t.records) at c.args.new c.requires.0 c.requires.1 t.rising);
    }

pub returns : goal.returns
returns g c =
    let t = c.args.self.now in
    let less : c.args.at < t.len = omega (arith, c.requires.0, length-take-le t.len t.records (omega (arith, t.room, t.long))) in
    take-set-lt t.len t.records c.args.at c.args.new less
