-- A call that was not admitted: it is answered as the meaning says, and nothing has changed.
use Rattle.std.proofs.Common.{◌≡◌, ℕ, ◌*◌, ◌≤◌, Bool, true, false, cond, ltb, List, length, take, drop, replicate, IsErrAnd, Ok, Err, Result, sym, refl, ap, ◌∙◌, subst, arith, ltb-false}
use borrow.Author.Tests.{both_ways}
use Rattle.std.proofs.lemmas.Result.{err_from_is_err_and}
use Rattle.flash.specs.declared.fault.FlashFault.{FlashFault}
use Rattle.flash.specs.declared.fault.FlashFault.TheVariants.{Off, Range, Program, Erase}
use Rattle.flash.specs.declared.fuse.Fuse.{Fuse}
use Rattle.flash.specs.Chip.{Chip, cleared}
use Rattle.flash.specs.Cuts.{image_long}
use Rattle.flash.specs.Faults.{Admits}
use Rattle.flash.specs.Fuses.{blows_at}
use Rattle.flash.specs.Image.{image_blocks, image_chip}
use Rattle.flash.specs.ImageCalls.{Image, ProgramsImage, ErasesImage, answered, left_by, put}
use Rattle.flash.specs.Joined.{joined, joined_blocks, ProgramsOne, ErasesOne}
use Rattle.flash.specs.Says.{Reads, Programs, Erases}

abbrev pub Answer : Type 0
Answer = Result (Unit {0}) FlashFault

abbrev pub image : List ℕ → Bool → Fuse → Image
image xs on fuse = record { bytes = xs; on = on; fuse = fuse }

-- what a `?` hands on
pub handed_on : {T : Type 0} (r : Result T FlashFault) (e : FlashFault) → IsErrAnd r (λ y. y ≡ e) → r ≡ Err e
handed_on r e by = let p = err_from_is_err_and r by in p.1 ∙ ap Err p.2

pub read_refused : (c : Chip) (p : ℕ) (x : List ℕ) (within : Bool) (e : FlashFault) → (within ≡ false → length c.pages ≤ p) → Admits c.on within (Err e) → Reads c p x (Err e) x
read_refused c p x within Off past off = (off, refl)
read_refused c p x within Range past a = (a.0, past a.1, refl)
read_refused c p x within (Program q) past a = a
read_refused c p x within (Erase q) past a = a

pub program_refused : (c : Chip) (p : ℕ) (w : List ℕ) (within : Bool) (e : FlashFault) → (within ≡ false → length c.pages ≤ p) → Admits c.on within (Err e) → Programs c p w (Err e) c
program_refused c p w within Off past off = (off, refl)
program_refused c p w within Range past a = (a.0, past a.1, refl)
program_refused c p w within (Program q) past a = absurd a
program_refused c p w within (Erase q) past a = a

pub erase_refused : (c : Chip) (b : ℕ) (within : Bool) (e : FlashFault) → (within ≡ false → c.blocks ≤ b) → Admits c.on within (Err e) → Erases c b (Err e) c
erase_refused c b within Off past off = (off, refl)
erase_refused c b within Range past a = (a.0, past a.1, refl)
erase_refused c b within (Program q) past a = a
erase_refused c b within (Erase q) past a = absurd a

-- the refusals of an image, by its exact answer
answer_refused : (i : Image) (within : Bool) (cut e : FlashFault) → Admits i.on within (Err e) → Err e ≡ answered i within cut
answer_refused i within cut Off off = sym (ap (λ b. cond b (cond within (cond (blows_at i.fuse) (Err cut) (Ok tt)) (Err Range)) (Err Off)) off)
answer_refused i within cut Range a =
    sym (ap (λ b. cond b (cond within (cond (blows_at i.fuse) (Err cut) (Ok tt)) (Err Range)) (Err Off)) a.0 ∙ ap (λ b. cond b (cond (blows_at i.fuse) (Err cut) (Ok tt)) (Err Range)) a.1)
answer_refused i within cut (Program q) a = absurd a
answer_refused i within cut (Erase q) a = absurd a

left_refused : (i j : Image) (within : Bool) (e : FlashFault) → Admits i.on within (Err e) → i ≡ left_by i within j
left_refused i j within Off off = sym (ap (λ b. cond b (cond within j i) i) off)
left_refused i j within Range a = sym (ap (λ b. cond b (cond within j i) i) a.0 ∙ ap (λ b. cond b j i) a.1)
left_refused i j within (Program q) a = absurd a
left_refused i j within (Erase q) a = absurd a

pub program_image_refused : (i : Image) (p : ℕ) (w : List ℕ) (e : FlashFault) → Admits i.on (ltb p (16 * image_blocks i.bytes)) (Err e) → ProgramsImage i p w (Err e) i
program_image_refused i p w e a =
    record { answer = answer_refused i (ltb p (16 * image_blocks i.bytes)) (Program p) e a; after = left_refused i (put i (256 * p) (cleared (take 256 (drop (256 * p) i.bytes)) w)) (ltb p (16 * image_blocks i.bytes)) e a; unused = refl }

pub erase_image_refused : (i : Image) (b : ℕ) (e : FlashFault) → Admits i.on (ltb b (image_blocks i.bytes)) (Err e) → ErasesImage i b (Err e) i
erase_image_refused i b e a =
    record { answer = answer_refused i (ltb b (image_blocks i.bytes)) (Erase b) e a; after = left_refused i (put i (4096 * b) (replicate 4096 255)) (ltb b (image_blocks i.bytes)) e a; unused = refl }

-- an image that refuses: the code tests the place `p` against `n`, and `x` is the fault
module _ (xs : List ℕ) (on : Bool) (p n : ℕ) (x : FlashFault) (r : Answer) (admits : Admits on (ltb p n) (Err x)) (handed : IsErrAnd r (λ y. y ≡ x)) where
  back : Err x ≡ r
  back = sym (handed_on r x handed)

  pub image_read_refused : (y : List ℕ) → n ≡ 16 * image_blocks xs → Reads (image_chip xs on) p y r y
  image_read_refused y e =
      subst (λ z. Reads (image_chip xs on) p y z y) back (read_refused (image_chip xs on) p y (ltb p n) x (λ past. omega (arith, ltb-false p n past, image_long xs on)) admits)

  pub image_program_refused : (fuse : Fuse) (w : List ℕ) → n ≡ 16 * image_blocks xs
      → record { says : Programs (image_chip xs on) p w r (image_chip xs on); exact : ProgramsImage (image xs on fuse) p w r (image xs on fuse) }
  image_program_refused fuse w e =
      record {
        says = subst (λ z. Programs (image_chip xs on) p w z (image_chip xs on)) back
            (program_refused (image_chip xs on) p w (ltb p n) x (λ past. omega (arith, ltb-false p n past, image_long xs on)) admits);
        exact = subst (λ z. ProgramsImage (image xs on fuse) p w z (image xs on fuse)) back
            (program_image_refused (image xs on fuse) p w x (subst (λ i. Admits on (ltb p i) (Err x)) e admits));
      }

  pub image_erase_refused : (fuse : Fuse) → n ≡ image_blocks xs
      → record { says : Erases (image_chip xs on) p r (image_chip xs on); exact : ErasesImage (image xs on fuse) p r (image xs on fuse) }
  image_erase_refused fuse e =
      record {
        says = subst (λ z. Erases (image_chip xs on) p z (image_chip xs on)) back
            (erase_refused (image_chip xs on) p (ltb p n) x (λ past. omega (arith, ltb-false p n past)) admits);
        exact = subst (λ z. ErasesImage (image xs on fuse) p z (image xs on fuse)) back
            (erase_image_refused (image xs on fuse) p x (subst (λ i. Admits on (ltb p i) (Err x)) e admits));
      }

-- with power on, only a place past the end is refused
past_end : {on within : Bool} (e : FlashFault) → Admits on within (Err e) → on ≡ true → within ≡ false
past_end {on} Off off up = absurd (both_ways on off up)
past_end Range x up = x.1
past_end (Program q) x up = absurd x
past_end (Erase q) x up = absurd x

-- a joined flash that refuses leaves both
pub program_one_refused : (a b : Chip) (p : ℕ) (w : List ℕ) (within : Bool) (e : FlashFault) → length a.pages ≤ length (joined a b).pages → (within ≡ false → length (joined a b).pages ≤ p)
    → Admits (joined a b).on within (Err e) → ProgramsOne a b p w (Err e) a b
program_one_refused a b p w within e fits past admits =
    record {
      first = λ up h. let g = past (past_end e admits up) in absurd (omega arith);
      second = λ up _ h. let g = past (past_end e admits up) in absurd (omega arith);
      refused = λ _. (refl, refl);
    }

pub erase_one_refused : (a b : Chip) (n : ℕ) (within : Bool) (e : FlashFault) → a.blocks ≤ joined_blocks a b → (within ≡ false → joined_blocks a b ≤ n)
    → Admits (joined a b).on within (Err e) → ErasesOne a b n (Err e) a b
erase_one_refused a b n within e fits past admits =
    record {
      first = λ up h. let g = past (past_end e admits up) in absurd (omega arith);
      second = λ up _ h. let g = past (past_end e admits up) in absurd (omega arith);
      refused = λ _. (refl, refl);
    }
