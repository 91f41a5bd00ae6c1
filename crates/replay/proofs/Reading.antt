-- A page that is read into a working page of 256 bytes.
use Rattle.std.proofs.Common.{◌≡◌, ℕ, List, length, Ok, sym, ◌∙◌}
use Rattle.flash.specs.Chip.{Chip, Formed, page}
use Rattle.flash.specs.Says.{Reads}
use Rattle.flash.proofs.Filling.{filled_whole}

pub read_whole : (c : Chip) (n place : ℕ) (before after : List ℕ) → Formed n c → length before ≡ 256 → Reads c place before (Ok tt) after → after ≡ page c place
read_whole c n place before after formed long read = read.2 ∙ filled_whole before (page c place) (long ∙ sym (formed.wide place read.1))
