-- What an image holds once pages of an example are put on it.
use Rattle.std.specs.Prelude.{◌≡◌, ℕ, ◌*◌, ◌<◌, ◌≤◌, true, ◌⊎◌, List, [], ◌∷◌, take, drop, Ok, Err, Result}
use Rattle.flash.specs.Chip.{cleared}
use Rattle.flash.specs.Image.{image_blocks}
use Rattle.flash.specs.ImageCalls.{Image, put}
use Rattle.flash.specs.declared.fault.FlashFault.{FlashFault}
use Rattle.flash.specs.declared.fault.FlashFault.TheVariants.{Off, Range, Program, Erase}
use Rattle.flash.specs.declared.fuse.Fuse.{Fuse}
use Rattle.flash.specs.declared.fuse.Fuse.TheVariants.{Intact, Set}
use Rattle.images.specs.Bytes.{bytes_of}
use Rattle.images.specs.declared.bytes.ImageFault.{ImageFault}
use Rattle.images.specs.declared.bytes.ImageFault.TheVariants.{Place, Unfit}
use Rattle.images.specs.declared.placed.Manner.{Manner}
use Rattle.images.specs.declared.placed.Manner.TheVariants.{Altered, Torn, Whole}
use Rattle.images.specs.declared.placed.Placed.{Placed}

-- the fuse under which a page is programmed
abbrev pub fuse_of : Manner → Fuse
fuse_of Whole = Intact
fuse_of (Torn leading) = Set 0 leading
fuse_of (Altered at count b) = Intact

-- the image once the page at `place` is programmed with the bytes w
abbrev pub with_page : Image → ℕ → List ℕ → Image
with_page i place w = put i (256 * place) (cleared (take 256 (drop (256 * place) i.bytes)) w)

-- the page is programmed, torn by the fuse or not, and power is on; or the image is off or has no such place, and is as it was
abbrev pub Programs : Image → ℕ → List ℕ → Result (Unit {0}) ImageFault → Image → Type 0
Programs i place w (Ok _) j = (i.on ≡ true) × (place < 16 * image_blocks i.bytes) × (j.bytes ≡ (with_page i place w).bytes) × (j.on ≡ true)
Programs i place w (Err Place) j = (i.on ≡ true → 16 * image_blocks i.bytes ≤ place) × (j.bytes ≡ i.bytes) × (j.on ≡ i.on)
Programs i place w (Err Unfit) j = ⊥

-- after a program that is refused: power is on again where it went, and else nothing changes
abbrev pub Recovers : FlashFault → Image → Result (Unit {0}) ImageFault → Image → Type 0
Recovers (Program page) i r j = (r ≡ Ok tt) × (j.bytes ≡ i.bytes) × (j.on ≡ true)
Recovers Off i r j = (r ≡ Err Place) × (j ≡ i)
Recovers Range i r j = (r ≡ Err Place) × (j ≡ i)
Recovers (Erase block) i r j = (r ≡ Err Place) × (j ≡ i)

-- the image with the fuse under which a page is programmed
abbrev pub fused : Image → Manner → Image
fused i m = record { bytes = i.bytes; on = i.on; fuse = fuse_of m }

-- what is done for a page that has these bytes, or none
abbrev pub PutsBytes : Image → Placed → Result (List ℕ) ImageFault → Result (Unit {0}) ImageFault → Image → Type 0
PutsBytes i p (Ok w) r j = Programs (fused i p.manner) p.place w r j
PutsBytes i p (Err e) r j = (r ≡ Err e) × (j ≡ i)

-- the page is put on the image
abbrev pub Puts : Image → Placed → Result (Unit {0}) ImageFault → Image → Type 0
Puts i p r j = PutsBytes i p (bytes_of p) r j

-- the call was refused
abbrev pub Refused : Result (Unit {0}) ImageFault → Type 0
Refused (Ok _) = ⊥
Refused (Err _) = Unit {0}

-- the pages are put on the image in their order, up to the first that is refused
abbrev pub Writes : Image → List Placed → Result (Unit {0}) ImageFault → Image → Type 0
Writes i [] r j = (r ≡ Ok tt) × (j ≡ i)
Writes i (p ∷ ps) r j = (Refused r × Puts i p r j) ⊎ ((k : Image) × Puts i p (Ok tt) k × Writes k ps r j)
