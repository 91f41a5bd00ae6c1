use Rattle.std.proofs.Common.{◌+◌, ◌/◌, ◌%◌, ◌<◌, [], ◌∷◌, length, decimal, sym, ap, arith, rules}
use Rattle.std.proofs.lemmas.Fmt.{decimal_digit, decimal_step}
use Rattle.std.proofs.lemmas.List.{length_push}
use Rattle.listing.proofs.Writing.{adds_as, adds_more}
use Rattle.listing.proofs.pen.Pen.+put_decimal.Goals as goal

pub put-requires : goal.put-requires
put-requires t c = omega (arith, ap length (decimal_digit c.args.number c.if-number-lt10.true), c.requires)

pub returns-then-number-lt10 : goal.returns-then-number-lt10
returns-then-number-lt10 t c = adds_as _ _ _ _ (sym (decimal_digit c.args.number c.if-number-lt10.true)) c.put.ensures

pub put_decimal-requires : goal.put_decimal-requires
put_decimal-requires t c =
    let n = c.args.number in
    let small : n < 18446744073709551616 = search rules in (
      omega (arith, c.decreases),
      omega (arith, ap length (decimal_step n c.if-number-lt10.false small), length_push (decimal (n / 10)) (48 + n % 10), c.requires),
    )

pub put-requires-else-number-lt10 : goal.put-requires-else-number-lt10
put-requires-else-number-lt10 t c =
    let n = c.args.number in
    let small : n < 18446744073709551616 = search rules in
    let front = c.put_decimal.ensures in
    omega (arith, ap length (decimal_step n c.if-number-lt10.false small), length_push (decimal (n / 10)) (48 + n % 10), c.requires, front.writes.ends, front.long)

pub returns-else-number-lt10 : goal.returns-else-number-lt10
returns-else-number-lt10 t c =
    let n = c.args.number in
    let small : n < 18446744073709551616 = search rules in
    let step = decimal_step n c.if-number-lt10.false small in
    adds_as _ _ _ _ (sym step)
    (adds_more c.args.self.now c.put_decimal.new.self c.put-else-number-lt10.new.self (decimal (n / 10)) ((48 + n % 10) ∷ [])
    (omega (arith, ap length step, length_push (decimal (n / 10)) (48 + n % 10), c.requires)) c.put_decimal.ensures c.put-else-number-lt10.ensures)
