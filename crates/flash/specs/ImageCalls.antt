-- What the calls of an image answer and leave, byte for byte.
use Rattle.std.specs.Prelude.{◌≡◌, ℕ, ◌*◌, Bool, cond, not, List, length, take, drop, replicate, Ok, Err, Result, nat_lt}
use Rattle.std.proofs.Math.Seq.{paste}
use Rattle.flash.specs.declared.fault.FlashFault.{FlashFault}
use Rattle.flash.specs.declared.fault.FlashFault.TheVariants.{Off, Range, Program, Erase}
use Rattle.flash.specs.declared.fuse.Fuse.{Fuse}
use Rattle.flash.specs.declared.image.ImageFlash.{ImageFlash}
use Rattle.flash.specs.Chip.{cleared}
use Rattle.flash.specs.Fuses.{blows_at, reach_of, burnt_of}
use Rattle.flash.specs.Image.{image_blocks}

-- an image: the caller's bytes, the power and the fuse
pub record Image : Type 0 where
  pub bytes : List ℕ
  pub on : Bool
  pub fuse : Fuse

abbrev pub view : ImageFlash → Image
view s = record { bytes = s.bytes.now; on = s.on; fuse = s.fuse }

-- the image once `final` is put at the byte `at`, as far as the fuse lets it
abbrev pub put : Image → ℕ → List ℕ → Image
put i at final =
    record {
      bytes = paste i.bytes at final (reach_of i.fuse (length final));
      on = not (blows_at i.fuse);
      fuse = burnt_of i.fuse;
    }

-- the answer where power is on or off, the place within the image or not, and power going is reported as `cut`
abbrev pub answered : Image → Bool → FlashFault → Result (Unit {0}) FlashFault
answered i within cut = cond i.on (cond within (cond (blows_at i.fuse) (Err cut) (Ok tt)) (Err Range)) (Err Off)

-- a refusal leaves the image as it is
abbrev pub left_by : Image → Bool → Image → Image
left_by i within done = cond i.on (cond within done i) i

-- the page p is programmed with the bytes w
pub record ProgramsImage (i : Image) (p : ℕ) (w : List ℕ) (r : Result (Unit {0}) FlashFault) (j : Image) : Type 0 where
  pub answer : r ≡ answered i (nat_lt p (16 * image_blocks i.bytes)) (Program p)
  pub after : j ≡ left_by i (nat_lt p (16 * image_blocks i.bytes)) (put i (256 * p) (cleared (take 256 (drop (256 * p) i.bytes)) w))
  pub unused : drop (4096 * image_blocks i.bytes) j.bytes ≡ drop (4096 * image_blocks i.bytes) i.bytes

-- the block b is erased
pub record ErasesImage (i : Image) (b : ℕ) (r : Result (Unit {0}) FlashFault) (j : Image) : Type 0 where
  pub answer : r ≡ answered i (nat_lt b (image_blocks i.bytes)) (Erase b)
  pub after : j ≡ left_by i (nat_lt b (image_blocks i.bytes)) (put i (4096 * b) (replicate 4096 255))
  pub unused : drop (4096 * image_blocks i.bytes) j.bytes ≡ drop (4096 * image_blocks i.bytes) i.bytes
