-- Two chips end to end, cut at 1,000 blocks.
use Rattle.std.specs.Prelude.{◌≡◌, ℕ, ◌+◌, ◌-◌, ◌*◌, ◌<◌, ◌≤◌, min, true, false, ◌&&◌, ◌⊎◌, List, ◌++◌, length, take, Ok, Err, Result}
use Rattle.flash.specs.declared.fault.FlashFault.{FlashFault}
use Rattle.flash.specs.declared.fault.FlashFault.TheVariants.{Off, Range, Program, Erase}
use Rattle.flash.specs.Chip.{Chip}
use Rattle.flash.specs.Says.{Programs, Erases}

-- how many blocks the two make
abbrev pub joined_blocks : Chip → Chip → ℕ
joined_blocks a b = min 1000 (a.blocks + b.blocks)

-- a, then b as far as there is room; on when both are on
abbrev pub joined : Chip → Chip → Chip
joined a b =
    record {
      per_block = a.per_block;
      blocks = joined_blocks a b;
      pages = take (a.per_block * joined_blocks a b) (a.pages ++ b.pages);
      on = a.on && b.on;
    }

-- an answer of the second chip, with the page or block as the two together number it
abbrev pub retold : ℕ → Result (Unit {0}) FlashFault → Result (Unit {0}) FlashFault
retold place (Ok u) = Ok u
retold place (Err Off) = Err Off
retold place (Err Range) = Err Range
retold place (Err (Program page)) = Err (Program place)
retold place (Err (Erase block)) = Err (Erase place)

-- the chip that holds the page p programs it, and the other is as it was; a refusal leaves both
pub record ProgramsOne (a b : Chip) (p : ℕ) (w : List ℕ) (r : Result (Unit {0}) FlashFault) (x y : Chip) : Type 0 where
  pub first : (joined a b).on ≡ true → p < length a.pages → Programs a p w r x × (y ≡ b)
  pub second : (joined a b).on ≡ true → length a.pages ≤ p → p < length (joined a b).pages
      → (s : Result (Unit {0}) FlashFault) × Programs b (p - length a.pages) w s y × (r ≡ retold p s) × (x ≡ a)
  pub refused : ((joined a b).on ≡ false) ⊎ (length (joined a b).pages ≤ p) → (x ≡ a) × (y ≡ b)

-- the same of the block k and its erase
pub record ErasesOne (a b : Chip) (k : ℕ) (r : Result (Unit {0}) FlashFault) (x y : Chip) : Type 0 where
  pub first : (joined a b).on ≡ true → k < a.blocks → Erases a k r x × (y ≡ b)
  pub second : (joined a b).on ≡ true → a.blocks ≤ k → k < joined_blocks a b
      → (s : Result (Unit {0}) FlashFault) × Erases b (k - a.blocks) s y × (r ≡ retold k s) × (x ≡ a)
  pub refused : ((joined a b).on ≡ false) ⊎ (joined_blocks a b ≤ k) → (x ≡ a) × (y ≡ b)
