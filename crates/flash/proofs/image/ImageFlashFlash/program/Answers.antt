use Rattle.std.proofs.Common.{◌*◌, ◌<◌, ap, refl, arith, rules, ltb-true}
use Rattle.flash.specs.Image.{image_blocks}
use Rattle.flash.proofs.ImageWrites.{program_ends}
use Rattle.flash.proofs.Refusals.{image_program_refused}
use Rattle.flash.proofs.image.ImageFlashFlash.program.Goals as goal

pub returns-in_err-admit : goal.returns-in_err-admit
returns-in_err-admit c =
    let s = c.args.self.now in
    let done = image_program_refused s.bytes.now s.on c.args.page (16 * c.blocks-2.result) c.in_err-admit.field-0.0 c.from_residual.result c.in_err-admit.ensures c.from_residual.ensures.1
    s.fuse c.args.bytes.now (ap (λ n. 16 * n) c.blocks-2.ensures) in
    record { says = done.says; exact = done.exact; lent = refl }

pub returns : goal.returns
returns c =
    let s = c.args.self.now in
    let within = ltb-true c.args.page (16 * c.blocks-2.result) c.in_ok-admit.ensures.1 in
    let h : c.args.page < 16 * image_blocks s.bytes.now = omega arith in
    let done = program_ends s.bytes.now c.args.bytes.now c.args.page s.on s.fuse h (search rules) c.in_ok-admit.ensures.0 (c.args.page * 256)
    (omega arith) c.reach-reach.ensures c.clear_bits.ensures c.burn.ensures.bytes c.burn.ensures.answer c.burn.ensures.power c.burn.ensures.fuse in
    record { says = done.says; exact = done.exact; lent = c.burn.ensures.lent }
