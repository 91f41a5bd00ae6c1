use Rattle.std.proofs.Common.{Ok, Err, refl, ap, ◌∙◌, arith}
use Rattle.listing.specs.Answer.{refusal_line}
use Rattle.listing.proofs.Answering.{listing_within, refusal_short}
use Rattle.listing.proofs.Writing.{writes_as}
use Rattle.listing.proofs.answer.put_answer.Goals as goal

pub returns-in-Ok : goal.returns-in-Ok
returns-in-Ok g c =
    let chip = g.F.ReadFlash.chip c.args.flash.now in
    let says = c.in-Ok.ensures.answer.page refl in
    record {
      within = listing_within chip c.args.out.now c.list.new.buffer c.in-Ok.end (c.list.auto.buffer ∙ c.told-out) says;
      buffer = record { answer = Ok c.in-Ok.end; listed = c.list.new.buffer; lists = says; told = (refl, refl) };
    }

pub returns-in-Err : goal.returns-in-Err
returns-in-Err g c =
    let says = c.in-Err.ensures.answer.page refl in
    record {
      within = omega (arith, refusal_short c.number.result c.number.type_inv, c.put_refusal.ensures.ends);
      buffer = record {
        answer = Err c.in-Err.fault;
        listed = c.list.new.buffer;
        lists = says;
        told = writes_as _ _ _ _ _ _ (ap refusal_line c.number.ensures) c.put_refusal.ensures;
      };
    }
