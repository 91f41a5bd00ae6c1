-- What a reader of a chip is told: its listing, or the line of a refusal.
use Rattle.std.specs.Prelude.{◌≡◌, ℕ, List, [], ◌∷◌, ◌++◌, Ok, Err, codes, decimal, Result}
use Rattle.flash.specs.Chip.{Chip}
use Rattle.replay.specs.Faults.{number_of_fault}
use Rattle.replay.specs.declared.fault.ReplayFault.{ReplayFault}
use Rattle.listing.specs.Chip.{ListsChip}
use Rattle.listing.specs.Writes.{Writes}

-- "refused", a space, the number and a line feed
abbrev pub refusal_line : ℕ → List ℕ
refusal_line number = codes "refused " ++ (decimal number ++ (10 ∷ []))

-- a listing stays as it stands, and a refusal has its line put to the front
abbrev pub Told : Result ℕ ReplayFault → List ℕ → ℕ → List ℕ → Type 0
Told (Ok n) listed end after = (end ≡ n) × (after ≡ listed)
Told (Err fault) listed end after = Writes listed 0 (refusal_line (number_of_fault fault)) end after

-- the memory holds, up to `end`, what listing the chip answers
pub record Answers (c : Chip) (before : List ℕ) (end : ℕ) (after : List ℕ) : Type 0 where
  pub answer : Result ℕ ReplayFault
  pub listed : List ℕ
  pub lists : ListsChip c before answer listed
  pub told : Told answer listed end after
