use Rattle.std.proofs.Common.{◌≤◌, [], ◌∷◌, length, refl, ap, arith}
use Rattle.tree.proofs.Paths.{path_short}
use Rattle.listing.proofs.Joining.{digits_short, line_short, adds_line}
use Rattle.listing.proofs.Writing.{adds_as}
use Rattle.listing.proofs.pen.Pen.put_line.Goals as goal

pub put_decimal-requires : goal.put_decimal-requires
put_decimal-requires c =
    let e = c.args.node.now.entry in
    omega (arith, c.requires.room, c.put.ensures.writes.ends, c.put.ensures.long, digits_short e.length c.requires.short)

pub put-requires-2 : goal.put-requires-2
put-requires-2 c =
    let e = c.args.node.now.entry in
    let one = c.put.ensures in
    let two = c.put_decimal.ensures in
    omega (arith, c.requires.room, one.writes.ends, one.long, two.writes.ends, two.long, digits_short e.length c.requires.short)

pub put_path-requires-clause-room : goal.put_path-requires-clause-room
put_path-requires-clause-room c =
    let e = c.args.node.now.entry in
    let one = c.put.ensures in
    let two = c.put_decimal.ensures in
    let three = c.put-2.ensures in
    omega (arith, c.requires.room, one.writes.ends, one.long, two.writes.ends, two.long, three.writes.ends, three.long, digits_short e.length c.requires.short)

pub put-requires-3 : goal.put-requires-3
put-requires-3 c =
    let e = c.args.node.now.entry in
    let one = c.put.ensures in
    let two = c.put_decimal.ensures in
    let three = c.put-2.ensures in
    let (path, stands, four) = c.put_path.ensures in
    omega (
      arith,
      c.requires.room,
      one.writes.ends,
      one.long,
      two.writes.ends,
      two.long,
      three.writes.ends,
      three.long,
      four.writes.ends,
      four.long,
      digits_short e.length c.requires.short,
      path_short _ _ _ path stands,
    )

pub returns : goal.returns
returns c =
    let e = c.args.node.now.entry in
    let (path, stands, adds) = c.put_path.ensures in
    let short : length path ≤ 200 = path_short _ _ _ path stands in (
      _,
      (e, c.requires.there, path, stands, refl),
      line_short e path c.requires.short short,
      adds_line c.args.self.now c.put.new.self c.put_decimal.new.self c.put-2.new.self c.put_path.new.self c.put-3.new.self e path c.requires.room c.requires.short short
          (adds_as _ _ _ _ (ap (λ l. l ∷ (32 ∷ [])) c.letter.ensures) c.put.ensures) c.put_decimal.ensures c.put-2.ensures adds c.put-3.ensures,
    )
