use Rattle.std.proofs.Common.{Err, sym, ap, ◌∙◌, subst, rules}
use Rattle.std.proofs.lemmas.Result.{err_from_is_err_and}
use Rattle.listing.specs.Chip.{ListsChip}
use Rattle.listing.proofs.OfChip.{list_refuses, tree_rooted, tree_short, listing_of}
use Rattle.listing.proofs.list_chip.list_page.Goals as goal

pub returns-in_err-found-clause-answer : goal.returns-in_err-found-clause-answer
returns-in_err-found-clause-answer g c =
    let chip = g.F.ReadFlash.chip c.args.flash.now in
    let before = c.args.buffer.now in
    let back = err_from_is_err_and c.from_residual.result c.from_residual.ensures.1 in
    let says = list_refuses chip before c.in_err-found.field-0.0 c.if-buffer-lt-LISTING_BYTES.false (c.in_err-found.ensures.answer.page (search rules)) in
    subst (λ r. ListsChip chip before r before) (sym (back.1 ∙ ap Err back.2)) says

pub write_listing-requires-clause-rooted : goal.write_listing-requires-clause-rooted
write_listing-requires-clause-rooted g c =
    let found = c.in_ok-found.ensures.answer.page (search rules) in
    tree_rooted (g.F.ReadFlash.chip c.args.flash.now) c.in_ok-found.found found.2

pub write_listing-requires-clause-short : goal.write_listing-requires-clause-short
write_listing-requires-clause-short g c =
    let found = c.in_ok-found.ensures.answer.page (search rules) in
    tree_short (g.F.ReadFlash.chip c.args.flash.now) c.in_ok-found.found found.2

pub returns-clause-answer : goal.returns-clause-answer
returns-clause-answer g c =
    let found = c.in_ok-found.ensures.answer.page (search rules) in
    let (text, lists, long, after) = c.write_listing.ensures in
    (c.if-buffer-lt-LISTING_BYTES.false, found.0, found.1, found.3, (text, listing_of (g.F.ReadFlash.chip c.args.flash.now) c.in_ok-found.found found.2 text lists, long, after))
