use Rattle.std.proofs.Common.{◌≡◌, ◌+◌, ◌-◌, ◌<◌, ◌≤◌, length, refl, ◌∙◌, arith, rules}
use Rattle.lookup.proofs.Rotating.{turned, put_between}
use Rattle.lookup.proofs.sorted.insert_at.Goals as goal

pub returns : goal.returns
returns g c =
    let xs = c.args.items.now in
    let len = c.args.len in
    let at = c.args.at in
    let room : len < length xs = omega arith in
    let le : at ≤ len = omega arith in
    let n : (len + 1) - at ≡ (len - at) + 1 = omega arith in
    let turn = c.rotate_right.ensures.after ∙ turned xs len at c.args.x room le ((len + 1) - at) _ n refl in
    (room, le, search rules, put_between xs len at c.args.x room le ((len + 1) - at) c.rotate_right.new.self n turn)
