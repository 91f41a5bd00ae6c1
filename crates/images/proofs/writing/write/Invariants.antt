use Rattle.std.proofs.Common.{drop, Result}
use Rattle.flash.specs.ImageCalls.{Image, view}
use Rattle.images.specs.Writes.{Writes}
use Rattle.images.specs.declared.bytes.ImageFault.{ImageFault}
use Rattle.images.proofs.writing.write.Given as goal

-- what the pages that are left end in, all of them end in
abbrev pub invariant-loop-placed : goal.invariant-loop-placed
invariant-loop-placed l =
    (r : Result (Unit {0}) ImageFault) (j : Image) → Writes (view l.flash) (drop l.placed-index l.pages) r j → Writes (view l.initial.flash) l.pages r j
