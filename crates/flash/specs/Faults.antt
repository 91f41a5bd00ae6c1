-- The number and the values of each report of a flash.
use Rattle.std.specs.Prelude.{◌≡◌, ℕ, Bool, true, false, Some, None, Ok, Err, Option, Result}
use Rattle.flash.specs.declared.fault.FlashFault.{FlashFault}
use Rattle.flash.specs.declared.fault.FlashFault.TheVariants.{Off, Range, Program, Erase}

-- 10 says that power is off or went in this call; 0 is the number of no refusal
abbrev pub number_of : FlashFault → ℕ
number_of Off = 10
number_of Range = 0
number_of (Program page) = 10
number_of (Erase block) = 10

-- the page in which power went
abbrev pub page_told : FlashFault → Option ℕ
page_told Off = None
page_told Range = None
page_told (Program page) = Some page
page_told (Erase block) = None

-- the block in which power went
abbrev pub block_told : FlashFault → Option ℕ
block_told Off = None
block_told Range = None
block_told (Program page) = None
block_told (Erase block) = Some block

-- a call goes on with power on and its place within the flash; missing power is answered first
abbrev pub Admits : Bool → Bool → Result (Unit {0}) FlashFault → Type 0
Admits on within (Ok _) = (on ≡ true) × (within ≡ true)
Admits on within (Err Off) = on ≡ false
Admits on within (Err Range) = (on ≡ true) × (within ≡ false)
Admits on within (Err (Program page)) = ⊥
Admits on within (Err (Erase block)) = ⊥
