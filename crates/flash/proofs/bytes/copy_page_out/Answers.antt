use Rattle.std.proofs.Common.{◌≡◌, ◌+◌, ◌-◌, ◌*◌, ◌++◌, take, drop, sym, ap, ◌∙◌, arith, length-drop}
use Rattle.flash.specs.Chip.{filled}
use Rattle.flash.specs.Cuts.{octets_same}
use Rattle.flash.proofs.Filling.{filled_part}
use Rattle.flash.proofs.bytes.copy_page_out.Goals as goal

pub returns : goal.returns
returns c =
    let xs = c.args.bytes.now in
    let out = c.args.out.now in
    let p = c.args.page in
    let n = c.min-len.result in
    let len : (p * 256 + n) - p * 256 ≡ n = omega arith in
    let at : p * 256 ≡ 256 * p = omega arith in
    ap (λ ys. ys ++ drop n out) (c.copy_from_slice.ensures.after ∙ ap (λ i. take i (drop (p * 256) xs)) len ∙ ap (λ i. take n (drop i xs)) at)
    ∙ filled_part out (drop (256 * p) xs) 256 n (simp length-drop (omega arith)) c.min-len.ensures
    ∙ ap (λ ys. filled out (take 256 (drop (256 * p) ys))) (sym (octets_same xs (λ k. omega (arith, c.type_inv.bytes k))))
