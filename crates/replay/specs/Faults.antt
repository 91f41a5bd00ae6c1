-- The number of each refusal of a reader.
use Rattle.std.specs.Prelude.{ℕ}
use Rattle.flash.specs.Faults.{number_of}
use Rattle.lookup.specs.declared.sorted.Unplaced.{Unplaced}
use Rattle.lookup.specs.declared.sorted.Unplaced.TheVariants.{Taken, Full}
use Rattle.replay.specs.declared.fault.ReplayFault.{ReplayFault}
use Rattle.replay.specs.declared.fault.ReplayFault.TheVariants.{WorkPage, Buffer, Blocks, Flash, Empty, Damaged}

-- the flash's own report keeps its number
abbrev pub number_of_fault : ReplayFault → ℕ
number_of_fault WorkPage = 1
number_of_fault Buffer = 5
number_of_fault Blocks = 6
number_of_fault (Flash report) = number_of report
number_of_fault Empty = 11
number_of_fault Damaged = 12

-- a page that is not taken in: its number is that of another one, or there are more pages than a chip that is shown has
abbrev pub refusal_of : Unplaced → ReplayFault
refusal_of Taken = Damaged
refusal_of Full = Blocks
