use Rattle.std.proofs.Common.{◌*◌, ◌<◌, sym, ap, ◌∙◌, arith, ltb-true}
use Rattle.flash.specs.Chip.{filled}
use Rattle.flash.specs.Cuts.{image_long, cut_at, image_fits, length_octets}
use Rattle.flash.specs.Image.{image_blocks, octets}
use Rattle.flash.proofs.Refusals.{image_read_refused}
use Rattle.flash.proofs.bytes.read_page.Goals as goal

pub copy_page_out-requires : goal.copy_page_out-requires
copy_page_out-requires c =
    let xs = c.args.bytes.now in
    let within = ltb-true c.args.page (16 * c.blocks_in.result) c.in_ok-admit.ensures.1 in
    omega (arith, image_fits xs, length_octets xs)

pub returns-in_err-admit : goal.returns-in_err-admit
returns-in_err-admit c =
    image_read_refused c.args.bytes.now c.args.on c.args.page (16 * c.blocks_in.result) c.in_err-admit.field-0.0 c.from_residual.result c.in_err-admit.ensures c.from_residual.ensures.1
    c.args.out.now (ap (λ n. 16 * n) c.blocks_in.ensures)

pub returns : goal.returns
returns c =
    let xs = c.args.bytes.now in
    let within = ltb-true c.args.page (16 * c.blocks_in.result) c.in_ok-admit.ensures.1 in
    let h : c.args.page < 16 * image_blocks xs = omega arith in
    (c.in_ok-admit.ensures.0, omega (arith, image_long xs c.args.on), c.copy_page_out.ensures ∙ ap (filled c.args.out.now) (sym (cut_at (16 * image_blocks xs) c.args.page (octets xs) h)))
