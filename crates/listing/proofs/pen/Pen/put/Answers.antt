use Rattle.std.proofs.Common.{refl}
use Rattle.listing.proofs.Writing.{writes_long, writes_part}
use Rattle.listing.proofs.pen.Pen.put.Goals as goal

pub returns : goal.returns
returns c =
    let p = c.args.self.now in
    let writes = writes_part p.out.now p.end c.args.bytes.now c.copy_from_slice.new.self c.copy_from_slice.ensures.after in
    record { same = refl; long = writes_long _ _ _ _ _ c.requires writes; writes = writes }
