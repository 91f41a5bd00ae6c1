use Rattle.std.proofs.Common.{◌*◌, ◌<◌, refl, arith, ltb-true}
use Rattle.flash.specs.Image.{image_blocks}
use Rattle.flash.proofs.ImageWrites.{erase_ends}
use Rattle.flash.proofs.Refusals.{image_erase_refused}
use Rattle.flash.proofs.image.ImageFlashFlash.erase.Goals as goal

pub returns-in_err-admit : goal.returns-in_err-admit
returns-in_err-admit c =
    let s = c.args.self.now in
    let done = image_erase_refused s.bytes.now s.on c.args.block c.blocks-2.result c.in_err-admit.field-0.0 c.from_residual.result c.in_err-admit.ensures c.from_residual.ensures.1
    s.fuse c.blocks-2.ensures in
    record { says = done.says; exact = done.exact; lent = refl }

pub returns : goal.returns
returns c =
    let s = c.args.self.now in
    let within = ltb-true c.args.block c.blocks-2.result c.in_ok-admit.ensures.1 in
    let h : c.args.block < image_blocks s.bytes.now = omega arith in
    let done = erase_ends s.bytes.now c.args.block s.on s.fuse h c.in_ok-admit.ensures.0 (c.args.block * 4096)
    (omega arith) c.reach-reach.ensures c.set_bits.ensures c.burn.ensures.bytes c.burn.ensures.answer c.burn.ensures.power c.burn.ensures.fuse in
    record { says = done.says; exact = done.exact; lent = c.burn.ensures.lent }
