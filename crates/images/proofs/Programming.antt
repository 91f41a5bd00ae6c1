-- What a program call on an image leaves, by its answer.
use Rattle.std.proofs.Common.{◌≡◌, ℕ, ◌*◌, ◌<◌, ◌≤◌, Bool, true, false, cond, not, ltb, List, Ok, Err, Result, sym, refl, ap, ◌∙◌, subst, arith, ltb-false, ltb-true}
use Rattle.std.proofs.lemmas.Bool.Decides.{nat_tests}
use Rattle.flash.specs.Fuses.{blows_at}
use Rattle.flash.specs.Image.{image_blocks}
use Rattle.flash.specs.ImageCalls.{Image, ProgramsImage, answered}
use Rattle.flash.specs.declared.fault.FlashFault.{FlashFault}
use Rattle.flash.specs.declared.fault.FlashFault.TheVariants.{Off, Range, Program, Erase}
use Rattle.images.specs.Writes.{Programs, Recovers, with_page}
use Rattle.images.specs.declared.bytes.ImageFault.{ImageFault}
use Rattle.images.specs.declared.bytes.ImageFault.TheVariants.{Place}

-- the image is as it was, and where it is on the page lies past it
abbrev pub Missed : ℕ → Image → Image → Type 0
Missed place i j = (i.on ≡ true → 16 * image_blocks i.bytes ≤ place) × (j.bytes ≡ i.bytes) × (j.on ≡ i.on)

abbrev pub Ends : ℕ → Image → Image → Result (Unit {0}) FlashFault → Image → Type 0
Ends place i done (Ok _) j = (i.on ≡ true) × (place < 16 * image_blocks i.bytes) × (j.bytes ≡ done.bytes) × (j.on ≡ true)
Ends place i done (Err (Program q)) j = (i.on ≡ true) × (place < 16 * image_blocks i.bytes) × (j.bytes ≡ done.bytes)
Ends place i done (Err Off) j = Missed place i j
Ends place i done (Err Range) j = Missed place i j
Ends place i done (Err (Erase b)) j = Missed place i j

-- an answer and an image by three tests
answer_by : ℕ → Bool → Bool → Bool → Result (Unit {0}) FlashFault
answer_by place on within blows = cond on (cond within (cond blows (Err (Program place)) (Ok tt)) (Err Range)) (Err Off)

module _ (place : ℕ) (i done : Image) (lit : done.on ≡ not (blows_at i.fuse)) where
  by_tests : (on within blows : Bool) → i.on ≡ on → ltb place (16 * image_blocks i.bytes) ≡ within → blows_at i.fuse ≡ blows
      → Ends place i done (answer_by place on within blows) (cond on (cond within done i) i)
  unfolding answer_by
  by_tests true true true o e b = (o, ltb-true _ _ e, refl)
  by_tests true true false o e b = (o, ltb-true _ _ e, refl, lit ∙ ap not b)
  by_tests true false blows o e b = (λ _. ltb-false _ _ e, refl, refl)
  by_tests false within blows o e b = (λ t. grind (arith, nat_tests), refl, refl)

pub program_ends : (i j : Image) (place : ℕ) (w : List ℕ) (r : Result (Unit {0}) FlashFault) → ProgramsImage i place w r j → Ends place i (with_page i place w) r j
unfolding answer_by
program_ends i j place w r s =
    let done : Image = with_page i place w in
    let h = by_tests place i done refl i.on (ltb place (16 * image_blocks i.bytes)) (blows_at i.fuse) refl refl refl in
    let P : Result (Unit {0}) FlashFault → Image → Type 0 = Ends place i done in
    subst (λ x. P x j) (sym s.answer) (subst (P (answered i (ltb place (16 * image_blocks i.bytes)) (Program place))) (sym s.after) h)

module _ (place : ℕ) (w : List ℕ) (i j k : Image) (r : Result (Unit {0}) ImageFault) where
  missed : Missed place i j → (r ≡ Err Place) × (k ≡ j) → Programs i place w r k
  missed m e = subst (λ x. Programs i place w x k) (sym e.0) (m.0, ap (λ x. x.bytes) e.1 ∙ m.1, ap (λ x. x.on) e.1 ∙ m.2)

  pub recovered : (fault : FlashFault) → Ends place i (with_page i place w) (Err fault) j → Recovers fault j r k → Programs i place w r k
  recovered (Program page) m e = subst (λ x. Programs i place w x k) (sym e.0) (m.0, m.1, e.1 ∙ m.2, e.2)
  recovered Off m e = missed m e
  recovered Range m e = missed m e
  recovered (Erase block) m e = missed m e
