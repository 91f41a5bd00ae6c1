use Rattle.flash.specs.ImageCalls.{view}
use Rattle.images.proofs.Programming.{program_ends, recovered}
use Rattle.images.proofs.writing.program.Goals as goal

pub returns-in-Ok : goal.returns-in-Ok
returns-in-Ok c = program_ends (view c.args.flash.now) _ c.args.place c.args.bytes.now _ c.in-Ok.ensures.exact

pub returns-in-Err : goal.returns-in-Err
returns-in-Err c =
    recovered c.args.place c.args.bytes.now (view c.args.flash.now) (view c.program.new.self) _ _ c.in-Err.fault
    (program_ends (view c.args.flash.now) _ c.args.place c.args.bytes.now _ c.in-Err.ensures.exact) c.recover.ensures
