-- What each call of a flash answers, and what it leaves.
use Rattle.std.specs.Prelude.{◌≡◌, ℕ, ◌<◌, ◌≤◌, true, false, List, length, Ok, Err, Result}
use Rattle.flash.specs.declared.fault.FlashFault.{FlashFault}
use Rattle.flash.specs.declared.fault.FlashFault.TheVariants.{Off, Range, Program, Erase}
use Rattle.flash.specs.Chip.{Chip, Torn, filled, page, programmed, erased}

-- the page p of c is read into a buffer that held `before` and then holds `after`
abbrev pub Reads : Chip → ℕ → List ℕ → Result (Unit {0}) FlashFault → List ℕ → Type 0
Reads c p before (Ok _) after = (c.on ≡ true) × (p < length c.pages) × (after ≡ filled before (page c p))
Reads c p before (Err Off) after = (c.on ≡ false) × (after ≡ before)
Reads c p before (Err Range) after = (c.on ≡ true) × (length c.pages ≤ p) × (after ≡ before)
Reads c p before (Err (Program q)) after = ⊥
Reads c p before (Err (Erase b)) after = ⊥

-- the page p of c is programmed with the bytes w, and c becomes d
abbrev pub Programs : Chip → ℕ → List ℕ → Result (Unit {0}) FlashFault → Chip → Type 0
Programs c p w (Ok _) d = (c.on ≡ true) × (p < length c.pages) × (d ≡ programmed c p w)
Programs c p w (Err Off) d = (c.on ≡ false) × (d ≡ c)
Programs c p w (Err Range) d = (c.on ≡ true) × (length c.pages ≤ p) × (d ≡ c)
Programs c p w (Err (Program q)) d = (c.on ≡ true) × (p < length c.pages) × (q ≡ p) × Torn c (programmed c p w) d
Programs c p w (Err (Erase b)) d = ⊥

-- the block b of c is erased, and c becomes d
abbrev pub Erases : Chip → ℕ → Result (Unit {0}) FlashFault → Chip → Type 0
Erases c b (Ok _) d = (c.on ≡ true) × (b < c.blocks) × (d ≡ erased c b)
Erases c b (Err Off) d = (c.on ≡ false) × (d ≡ c)
Erases c b (Err Range) d = (c.on ≡ true) × (c.blocks ≤ b) × (d ≡ c)
Erases c b (Err (Program p)) d = ⊥
Erases c b (Err (Erase a)) d = (c.on ≡ true) × (b < c.blocks) × (a ≡ b) × Torn c (erased c b) d
