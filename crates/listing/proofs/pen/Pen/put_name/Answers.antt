use Rattle.std.proofs.Common.{[], ◌∷◌, arith}
use Rattle.page.specs.Names.{name_text}
use Rattle.listing.proofs.Writing.{adds_as, adds_more}
use Rattle.listing.proofs.pen.Pen.put_name.Goals as goal

pub returns : goal.returns
returns c =
    adds_more c.args.self.now c.put.new.self c.put-2.new.self (47 ∷ []) (name_text c.args.name.now) (omega (arith, c.requires)) c.put.ensures
    (adds_as _ _ _ _ c.as_bytes.ensures c.put-2.ensures)
