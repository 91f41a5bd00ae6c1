-- What a program or an erase that lost power leaves of a chip, to whoever looks for data pages.
use Rattle.std.specs.Prelude.{◌≡◌, ℕ, ◌<◌, true, ◌≢◌, List, length, slice_index}
use Rattle.flash.specs.Chip.{Chip, Formed, InBlock, Torn, blank, page, programmed, erased}
use Rattle.page.specs.Code.{is_data, Settled}

-- the page p was all ones and was being programmed with w: it is data only where it is w, and no other page changed
pub record TornProgram (c d : Chip) (p : ℕ) (w : List ℕ) : Type 0 where
  pub settled : Settled (page d p)
  pub whole : is_data (page d p) ≡ true → page d p ≡ w
  pub others : (q : ℕ) → q ≢ p → page d q ≡ page c q

-- the block b was being erased: each of its pages is data only where it is as it was, and no page outside it changed
pub record TornErase (c d : Chip) (b : ℕ) : Type 0 where
  pub settled : (q : ℕ) → InBlock c b q → Settled (page d q)
  pub whole : (q : ℕ) → InBlock c b q → is_data (page d q) ≡ true → page d q ≡ page c q
  pub others : (q : ℕ) → (InBlock c b q → ⊥) → page d q ≡ page c q

-- programming a settled page onto all ones adds that page or none, however power goes
abbrev pub TornProgramAddsNone : Type 0
TornProgramAddsNone = (n : ℕ) (c d : Chip) (p : ℕ) (w : List ℕ) → Formed n c → Formed n d → p < length c.pages → page c p ≡ blank
    → length w ≡ 256 → ((k : ℕ) → slice_index w k < 256) → Settled w → Torn c (programmed c p w) d → TornProgram c d p w

-- erasing a block of settled pages only takes data pages away, however power goes
abbrev pub TornEraseAddsNone : Type 0
TornEraseAddsNone = (n : ℕ) (c d : Chip) (b : ℕ) → Formed n c → Formed n d → b < c.blocks
    → ((q : ℕ) → InBlock c b q → Settled (page c q)) → Torn c (erased c b) d → TornErase c d b
