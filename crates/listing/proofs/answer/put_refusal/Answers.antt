use Rattle.std.proofs.Common.{◌<◌, [], ◌∷◌, ◌++◌, codes, decimal, arith, rules}
use Rattle.listing.proofs.Answering.{three_digits}
use Rattle.listing.proofs.Writing.{adds_more}
use Rattle.listing.proofs.answer.put_refusal.Goals as goal

pub put_decimal-requires : goal.put_decimal-requires
put_decimal-requires c =
    let n = c.args.number in
    let small : n < 256 = search rules in
    omega (arith, c.requires, c.put.ensures.writes.ends, c.put.ensures.long, three_digits n small)

pub put-requires-2 : goal.put-requires-2
put-requires-2 c =
    let n = c.args.number in
    let small : n < 256 = search rules in
    omega (arith, c.requires, c.put.ensures.writes.ends, c.put.ensures.long, c.put_decimal.ensures.writes.ends, c.put_decimal.ensures.long, three_digits n small)

pub returns : goal.returns
returns c =
    let n = c.args.number in
    let small : n < 256 = search rules in
    let one = c.put.ensures in
    let two = adds_more c.put.new.self c.put_decimal.new.self c.put-2.new.self (decimal n) (10 ∷ []) (omega (arith, c.requires, one.writes.ends, one.long, three_digits n small)) c.put_decimal.ensures c.put-2.ensures in
    let all = adds_more _ c.put.new.self c.put-2.new.self (codes "refused ") (decimal n ++ (10 ∷ [])) (omega (arith, c.requires)) one two in
    let writes = all.writes in
    let same = all.same in
    search (rules, writes, same)
