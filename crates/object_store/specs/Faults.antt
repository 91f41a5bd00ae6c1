-- The number of each refusal of an object store.
use Rattle.std.specs.Prelude.{ℕ}
use Rattle.flash.specs.Faults.{number_of}
use Rattle.object_store.specs.declared.fault.ObjectFault.{ObjectFault}
use Rattle.object_store.specs.declared.fault.ObjectFault.TheVariants.{WorkPage, Blocks, Flash, Empty, Damaged, Unfit, Full, Spent}

-- the flash's own report keeps its number; a batch that is unfit has none
abbrev pub number_of_fault : ObjectFault → ℕ
number_of_fault WorkPage = 1
number_of_fault Blocks = 6
number_of_fault (Flash report) = number_of report
number_of_fault Empty = 11
number_of_fault Damaged = 12
number_of_fault Unfit = 0
number_of_fault Full = 25
number_of_fault Spent = 26
