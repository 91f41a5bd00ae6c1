-- A program or an erase of an image, from what its steps left to what its contract says.
use Rattle.std.proofs.Common.{◌≡◌, ℕ, ◌+◌, ◌-◌, ◌*◌, ◌<◌, ◌≤◌, Bool, true, false, cond, ltb, List, ◌++◌, length, take, drop, replicate, Ok, Err, sym, refl, ap, ◌∙◌, subst, arith, length-drop, length-take, lt-ltb}
use borrow.Rule.Slice.PartMut.{put_mid}
use lib.Seq.{paste}
use Rattle.std.proofs.lemmas.List.{take-take, length-replicate, length-take-le, take-replicate}
use Rattle.std.proofs.lemmas.Slice.{put_mid-paste}
use Rattle.flash.specs.declared.fault.FlashFault.{FlashFault}
use Rattle.flash.specs.declared.fault.FlashFault.TheVariants.{Off, Range, Program, Erase}
use Rattle.flash.specs.declared.fuse.Fuse.{Fuse}
use Rattle.flash.specs.Chip.{Chip, Torn, cleared, programmed, erased}
use Rattle.flash.specs.Cuts.{image_long}
use Rattle.flash.specs.Fuses.{blows_at, reach_of, burnt_of}
use Rattle.flash.specs.Image.{image_blocks, image_chip}
use Rattle.flash.specs.ImageCalls.{Image, ProgramsImage, ErasesImage, put, answered, left_by}
use Rattle.flash.specs.Says.{Programs, Erases}
use Rattle.flash.proofs.Clearing.{take_cleared}
use Rattle.flash.proofs.Fusing.{reach_within, reach_whole, power_left}
use Rattle.flash.proofs.Images.{final_long, image_programmed, image_erased, image_torn}
use Rattle.flash.proofs.Pasting.{drop_paste}
use Rattle.flash.proofs.Refusals.{Answer, image}

-- what an operation that went on leaves
module _ (xs s : List ℕ) (at : ℕ) (fuse : Fuse) (on within : Bool) (up : on ≡ true) (inside : within ≡ true) where
  pub left_is : (j : Image) → left_by (image xs on fuse) within j ≡ j
  left_is j = ap (λ b. cond b (cond within j (image xs on fuse)) (image xs on fuse)) up ∙ ap (λ b. cond b j (image xs on fuse)) inside

  pub put_is : image (paste xs at s (reach_of fuse (length s))) (cond (blows_at fuse) false on) (burnt_of fuse) ≡ left_by (image xs on fuse) within (put (image xs on fuse) at s)
  put_is =
      ap (λ b. image (paste xs at s (reach_of fuse (length s))) b (burnt_of fuse)) (power_left (blows_at fuse) on up)
      ∙ sym (left_is (put (image xs on fuse) at s))

-- `s` is put at the byte `at` of an image that is on, and the place is within it; where power stays, the chip is `done`
record Put (xs s : List ℕ) (at len : ℕ) (on within : Bool) (done : Chip) : Type 0 where
  long : length s ≡ len
  fits : at + len ≤ length xs
  up : on ≡ true
  inside : within ≡ true
  is : image_chip (paste xs at s len) on ≡ done

-- what an operation that went on answers
pub answer_is : (xs : List ℕ) (fuse : Fuse) (on within : Bool) (cut : FlashFault) → on ≡ true → within ≡ true → answered (image xs on fuse) within cut ≡ cond (blows_at fuse) (Err cut) (Ok tt)
answer_is xs fuse on within cut up inside =
    ap (λ b. cond b (cond within (cond (blows_at fuse) (Err cut) (Ok tt)) (Err Range)) (Err Off)) up
    ∙ ap (λ b. cond b (cond (blows_at fuse) (Err cut) (Ok tt)) (Err Range)) inside

-- the fuse lets only a part of it through where power goes, and `cut` reports that
module _ {xs s : List ℕ} {at len : ℕ} {on within : Bool} {done : Chip} (p : Put xs s at len on within done) (fuse : Fuse) (cut : FlashFault) where
  abbrev left : List ℕ
  left = paste xs at s (reach_of fuse len)

  abbrev answer : Answer
  answer = cond (blows_at fuse) (Err cut) (Ok tt)

  abbrev after : Image
  after = image left (cond (blows_at fuse) false on) (burnt_of fuse)

  answers : answer ≡ answered (image xs on fuse) within cut
  answers = sym (answer_is xs fuse on within cut p.up p.inside)

  after_is : after ≡ left_by (image xs on fuse) within (put (image xs on fuse) at s)
  after_is =
      ap (λ n. image (paste xs at s (reach_of fuse n)) (cond (blows_at fuse) false on) (burnt_of fuse)) (sym p.long)
      ∙ put_is xs s at fuse on within p.up p.inside

  unused_is : (m : ℕ) → at + len ≤ m → drop m left ≡ drop m xs
  unused_is m past =
      drop_paste xs s at (reach_of fuse len) (omega (arith, p.fits, reach_within fuse len)) (omega (arith, p.long, reach_within fuse len)) m (omega (arith, reach_within fuse len))

  whole : blows_at fuse ≡ false → image_chip left on ≡ done
  whole e = ap (λ n. image_chip (paste xs at s n) on) (reach_whole fuse len e) ∙ p.is

  torn : Torn (image_chip xs on) done (image_chip left false)
  torn =
      subst (λ f. Torn (image_chip xs on) f (image_chip left false)) (ap (λ n. image_chip (paste xs at s n) on) p.long ∙ p.is)
      (image_torn xs s at (reach_of fuse len) on on (omega (arith, p.fits, p.long)) (omega (arith, p.long, reach_within fuse len)))

  -- the whole contract, from what the steps left
  ends : (Says : Answer → Chip → Type 0) (Exact : Answer → Image → Type 0) {ys part : List ℕ} (start : ℕ) {n : ℕ} {off : Bool} {burnt : Fuse} {r : Answer}
      → (blows_at fuse ≡ false → Says (Ok tt) (image_chip left on)) → Says (Err cut) (image_chip left false) → Exact answer after
      → start ≡ at → n ≡ reach_of fuse len → part ≡ take (reach_of fuse len) s → ys ≡ put_mid start ((start + n) - start) xs part
      → r ≡ answer → off ≡ cond (blows_at fuse) false on → burnt ≡ burnt_of fuse
      → record { says : Says r (image_chip ys off); exact : Exact r (image ys off burnt) }
  ends Says Exact {ys} {part} start {n} {off} {burnt} {r} ended short exact es en epart eys er eoff eburnt =
      let m : ℕ = reach_of fuse len in
      let all : ys ≡ left =
      eys ∙ put_mid-paste start ((start + n) - start) xs part (take m s) n epart (omega arith) (en ∙ sym (length-take-le m s (omega (arith, p.long, reach_within fuse len))))
      ∙ ap (λ i. paste xs i (take m s) n) es ∙ ap (λ i. paste xs at (take m s) i) en
      ∙ ap (λ zs. take at xs ++ zs ++ drop (at + m) xs) (take-take m m s (omega arith)) in
      let Whole : Answer → List ℕ → Bool → Fuse → Type 0 = λ r ys off burnt. record { says : Says r (image_chip ys off); exact : Exact r (image ys off burnt) } in
      subst (λ r. Whole r ys off burnt) (sym er) (subst (λ ys. Whole answer ys off burnt) (sym all)
      (subst (λ off. Whole answer left off burnt) (sym eoff)
      (subst (λ burnt. Whole answer left (cond (blows_at fuse) false on) burnt) (sym eburnt) (record { says = said (blows_at fuse) refl; exact = exact }))))
    where
      said : (b : Bool) → blows_at fuse ≡ b → Says (cond b (Err cut) (Ok tt)) (image_chip left (cond b false on))
      said false e = ended e
      said true e = short

pub program_ends : (xs w : List ℕ) (p : ℕ) (on : Bool) (fuse : Fuse) → p < 16 * image_blocks xs → length w ≡ 256 → on ≡ true
    → {ys part : List ℕ} (start : ℕ) {n : ℕ} {off : Bool} {burnt : Fuse} {r : Answer} → start ≡ 256 * p → n ≡ reach_of fuse 256
    → part ≡ cleared (take ((start + n) - start) (drop start xs)) w → ys ≡ put_mid start ((start + n) - start) xs part
    → r ≡ cond (blows_at fuse) (Err (Program p)) (Ok tt) → off ≡ cond (blows_at fuse) false on → burnt ≡ burnt_of fuse
    → record { says : Programs (image_chip xs on) p w r (image_chip ys off); exact : ProgramsImage (image xs on fuse) p w r (image ys off burnt) }
program_ends xs w p on fuse h wide up {ys} {part} start {n} es en epart =
    let old : List ℕ = take 256 (drop (256 * p) xs) in
    let q : Put xs (cleared old w) (256 * p) 256 on (ltb p (16 * image_blocks xs)) (programmed (image_chip xs on) p w) =
    record { long = final_long xs w p on h wide; fits = omega arith; up = up; inside = lt-ltb p (16 * image_blocks xs) h; is = image_programmed xs w p on h wide } in
    let here : part ≡ take (reach_of fuse 256) (cleared old w) =
    epart ∙ ap (λ i. cleared (take i (drop start xs)) w) (let e : (start + n) - start ≡ reach_of fuse 256 = omega arith in e) ∙ ap (λ i. cleared (take (reach_of fuse 256) (drop i xs)) w) es
    ∙ sym (take_cleared (reach_of fuse 256) old w ∙ ap (λ zs. cleared zs w) (take-take (reach_of fuse 256) 256 (drop (256 * p) xs) (reach_within fuse 256))) in
    let in_pages : p < length (image_chip xs on).pages = omega (arith, image_long xs on) in
    ends q fuse (Program p) (λ r d. Programs (image_chip xs on) p w r d) (λ r j. ProgramsImage (image xs on fuse) p w r j) start
    (λ e. (up, in_pages, whole q fuse (Program p) e)) (up, in_pages, refl, torn q fuse (Program p))
    (record { answer = answers q fuse (Program p); after = after_is q fuse (Program p); unused = unused_is q fuse (Program p) (4096 * image_blocks xs) (omega arith) })
    es en here

pub erase_ends : (xs : List ℕ) (b : ℕ) (on : Bool) (fuse : Fuse) → b < image_blocks xs → on ≡ true
    → {ys part : List ℕ} (start : ℕ) {n : ℕ} {off : Bool} {burnt : Fuse} {r : Answer} → start ≡ 4096 * b → n ≡ reach_of fuse 4096
    → part ≡ replicate (length (take ((start + n) - start) (drop start xs))) 255 → ys ≡ put_mid start ((start + n) - start) xs part
    → r ≡ cond (blows_at fuse) (Err (Erase b)) (Ok tt) → off ≡ cond (blows_at fuse) false on → burnt ≡ burnt_of fuse
    → record { says : Erases (image_chip xs on) b r (image_chip ys off); exact : ErasesImage (image xs on fuse) b r (image ys off burnt) }
erase_ends xs b on fuse h up {ys} {part} start {n} es en epart =
    let q : Put xs (replicate 4096 255) (4096 * b) 4096 on (ltb b (image_blocks xs)) (erased (image_chip xs on) b) =
    record { long = length-replicate {A = ℕ} 4096 255; fits = omega arith; up = up; inside = lt-ltb b (image_blocks xs) h; is = image_erased xs b on h } in
    let here : part ≡ take (reach_of fuse 4096) (replicate 4096 255) =
    epart ∙ ap (λ i. replicate i 255) (reached start n es en ∙ en) ∙ sym (take-replicate (reach_of fuse 4096) 4096 255 (reach_within fuse 4096)) in
    ends q fuse (Erase b) (λ r d. Erases (image_chip xs on) b r d) (λ r j. ErasesImage (image xs on fuse) b r j) start
    (λ e. (up, h, whole q fuse (Erase b) e)) (up, h, refl, torn q fuse (Erase b))
    (record { answer = answers q fuse (Erase b); after = after_is q fuse (Erase b); unused = unused_is q fuse (Erase b) (4096 * image_blocks xs) (omega arith) })
    es en here
  where
    -- the block has the bytes that the step reaches
    reached : (start n : ℕ) → start ≡ 4096 * b → n ≡ reach_of fuse 4096 → length (take ((start + n) - start) (drop start xs)) ≡ n
    reached start n es en = simp (length-take, length-drop) (omega (arith, reach_within fuse 4096))
