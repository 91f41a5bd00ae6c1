use Rattle.std.proofs.Common.{◌≡◌, ℕ, true, List, sym, ◌∙◌, subst}
use Rattle.std.proofs.lemmas.Bool.{cond-true}
use Rattle.page.specs.Encoded.{encoded}
use Rattle.page.specs.Fits.{fits}
use Rattle.page.specs.Holds.{Holds}
use Rattle.page.proofs.Placing.{placed}
use Rattle.page.proofs.RoundTrip.{encoded_is_data, round_trip}
use Rattle.page.proofs.Unlisted.{unlisted_ones}
use Rattle.page.proofs.encoding.encode.Goals as goal

pub returns : goal.returns
returns c =
    let page = c.args.page.now in
    let t : fits page ≡ true = sym c.if-not-fits.ensures in
    let e = c.put_page.ensures.buffer ∙ placed page in
    let number = c.put_page.ensures.number in
    let sized = c.put_page.ensures.sized in
    let holds : Holds page (encoded page) =
    record { is_whole = encoded_is_data page t sized; reads = round_trip page t number sized; rest = unlisted_ones page t sized }
    in
    record {
      answer = sym (cond-true (fits page) _ _ t);
      buffer = e ∙ sym (cond-true (fits page) _ _ t);
      round = λ _. subst (λ (q : List ℕ). Holds page q) (sym e) holds;
    }
