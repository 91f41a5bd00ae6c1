-- What putting bytes into an image makes of its chip.
use Rattle.std.proofs.Common.{◌≡◌, ℕ, ◌+◌, ◌-◌, ◌*◌, ◌/◌, ◌%◌, ◌<◌, ◌≤◌, min, Bool, false, ◌≢◌, ◌⊎◌, List, [], length, get_or, take, drop, set, replicate, sym, refl, ap, ◌∙◌, inl, inr, arith, length-drop, length-set, length-take}
use native.Mathlib.Decide.{dec_lt, ℕ_discrete}
use lib.Bits.{bit_and}
use lib.Seq.{paste}
use Rattle.std.proofs.lemmas.Nat.{and_mod, and_le_l}
use Rattle.std.proofs.lemmas.List.{get_or-set_other, get_or-set_same, get_or_past, ext_get_or, get_or-take, get_or-drop, get_or-replicate, length-replicate}
use Rattle.flash.specs.Chip.{Chip, Torn, page, blank, cleared, programmed, erased}
use Rattle.flash.specs.Image.{image_blocks, cut, octets, image_chip}
use Rattle.flash.specs.Cuts.{length_cut, cut_byte, cut_wide, octet_at, length_octets, image_fits, image_long, image_byte, image_wide, past_zero}
use Rattle.flash.proofs.Chips.{mixed_byte}
use Rattle.flash.proofs.Clearing.{cleared_at, length_cleared}
use Rattle.flash.proofs.Erasing.{erased_long, erased_below, erased_inside, erased_above}
use Rattle.flash.proofs.Pasting.{length_paste, paste_before, paste_within, paste_past, paste_short}

-- pages that read byte for byte as the bytes do are those bytes cut up
cut_ext : (n : ℕ) (xs : List ℕ) (ps : List (List ℕ)) → 256 * n ≤ length xs → length ps ≡ n → ((p : ℕ) → p < n → length (get_or ps p []) ≡ 256)
    → ((p k : ℕ) → p < n → k < 256 → get_or (get_or ps p []) k 0 ≡ get_or xs (256 * p + k) 0) → cut n xs ≡ ps
cut_ext n xs ps fits long wide same =
    ext_get_or [] (cut n xs) ps (length_cut n xs ∙ sym long)
    (λ p h. let l : p < n = omega (arith, h, length_cut n xs) in
    ext_get_or 0 (get_or (cut n xs) p []) (get_or ps p []) (cut_wide n p xs l fits ∙ sym (wide p l))
    (λ k g. let m : k < 256 = omega (arith, g, cut_wide n p xs l fits) in cut_byte n p k xs l m ∙ sym (same p k l m)))

abbrev chip_of : ℕ → List (List ℕ) → Bool → Chip
chip_of m ps on = record { per_block = 16; blocks = m; pages = ps; on = on }

-- an image of as many bytes, by its pages
image_is : (xs ys : List ℕ) (ps : List (List ℕ)) (on : Bool) → length ys ≡ length xs → length ps ≡ 16 * image_blocks xs
    → ((p : ℕ) → p < 16 * image_blocks xs → length (get_or ps p []) ≡ 256)
    → ((p k : ℕ) → p < 16 * image_blocks xs → k < 256 → get_or (get_or ps p []) k 0 ≡ get_or ys (256 * p + k) 0 % 256)
    → image_chip ys on ≡ chip_of (image_blocks xs) ps on
image_is xs ys ps on long count wide same =
    ap (λ l. chip_of (min 1000 (l / 4096)) (cut (16 * min 1000 (l / 4096)) (octets ys)) on) long
    ∙ ap (λ qs. chip_of (image_blocks xs) qs on)
    (cut_ext (16 * image_blocks xs) (octets ys) ps (omega (arith, image_fits xs, length_octets xs, length_octets ys, long)) count wide
    (λ p k h l. same p k h l ∙ sym (octet_at ys (256 * p + k))))

-- a byte cleared by any number is a byte
and_octet : (a g : ℕ) → bit_and (a % 256) g ≡ bit_and a g % 256
and_octet a g =
    let low : bit_and (a % 256) g ≤ a % 256 = and_le_l (a % 256) g in
    let whole : bit_and (a % 256) g ≡ bit_and (a % 256) g % 256 = omega arith in
    let twice : (a % 256) % 256 ≡ a % 256 = omega arith in
    whole ∙ and_mod (a % 256) g 8 ∙ ap (λ x. bit_and x (g % 256)) twice ∙ sym (and_mod a g 8)

module _ (xs w : List ℕ) (p : ℕ) (on : Bool) (h : p < 16 * image_blocks xs) (wide : length w ≡ 256) where
  abbrev old : List ℕ
  old = take 256 (drop (256 * p) xs)

  old_long : length old ≡ 256
  old_long = simp (length-take, length-drop) (omega arith)

  pub final_long : length (cleared old w) ≡ 256
  final_long = length_cleared old w (omega (arith, old_long)) ∙ old_long

  abbrev after : List ℕ
  after = paste xs (256 * p) (cleared old w) 256

  abbrev pages : List (List ℕ)
  pages = (image_chip xs on).pages

  new_long : length (cleared (page (image_chip xs on) p) w) ≡ 256
  new_long = length_cleared (page (image_chip xs on) p) w (omega (arith, image_wide xs on p h)) ∙ image_wide xs on p h

  new_byte : (k : ℕ) → k < 256 → get_or (cleared (page (image_chip xs on) p) w) k 0 ≡ get_or after (256 * p + k) 0 % 256
  new_byte k l =
      let e : (256 * p + k) - 256 * p ≡ k = omega arith in
      cleared_at (page (image_chip xs on) p) w k (omega (arith, image_wide xs on p h)) (omega arith)
      ∙ ap (λ x. bit_and x (get_or w k 0)) (image_byte xs on p k h l)
      ∙ and_octet (get_or xs (256 * p + k) 0) (get_or w k 0)
      ∙ ap (λ x. bit_and x (get_or w k 0) % 256) (sym (get_or-take 256 (drop (256 * p) xs) k 0 l ∙ get_or-drop (256 * p) xs k 0))
      ∙ ap (λ x. x % 256) (sym (cleared_at old w k (omega (arith, old_long)) (omega arith)))
      ∙ ap (λ i. get_or (cleared old w) i 0 % 256) (sym e)
      ∙ ap (λ x. x % 256) (sym (paste_within xs (cleared old w) (256 * p) 256 (omega arith) (omega (arith, final_long)) (256 * p + k) (omega arith) (omega arith)))

  other_byte : (q k : ℕ) → q ≢ p → q < 16 * image_blocks xs → k < 256 → get_or (page (image_chip xs on) q) k 0 ≡ get_or after (256 * q + k) 0 % 256
  other_byte q k ne l m =
      image_byte xs on q k l m ∙ ap (λ x. x % 256) (sym (elim (dec_lt q p) [
        | yes lt ↦ paste_before xs (cleared old w) (256 * p) 256 (omega arith) (omega (arith, final_long)) (256 * q + k) (omega arith)
        | no ge ↦ paste_past xs (cleared old w) (256 * p) 256 (omega arith) (omega (arith, final_long)) (256 * q + k) (let gt : p < q = omega arith in omega arith)
      ]))

  -- the page put into the bytes is the page programmed
  pub image_programmed : image_chip after on ≡ programmed (image_chip xs on) p w
  image_programmed =
      image_is xs after (set pages p (cleared (page (image_chip xs on) p) w)) on
      (length_paste xs (cleared old w) (256 * p) 256 (omega arith) (omega (arith, final_long)))
      (length-set pages p (cleared (page (image_chip xs on) p) w) ∙ image_long xs on)
      (λ q l. elim (ℕ_discrete q p) [
        | yes e ↦ ap (λ i. length (get_or (set pages p (cleared (page (image_chip xs on) p) w)) i [])) e ∙ ap length (here) ∙ new_long
        | no ne ↦ (let n : q ≢ p = ne in ap length (get_or-set_other pages p q (cleared (page (image_chip xs on) p) w) [] n) ∙ image_wide xs on q l)
      ])
      (λ q k l m. elim (ℕ_discrete q p) [
        | yes e ↦ ap (λ i. get_or (get_or (set pages p (cleared (page (image_chip xs on) p) w)) i []) k 0) e ∙ ap (λ ys. get_or ys k 0) here ∙ new_byte k m ∙ ap (λ i. get_or after (256 * i + k) 0 % 256) (sym e)
        | no ne ↦ (let n : q ≢ p = ne in ap (λ ys. get_or ys k 0) (get_or-set_other pages p q (cleared (page (image_chip xs on) p) w) [] n) ∙ other_byte q k n l m)
      ])
    where
      here : get_or (set pages p (cleared (page (image_chip xs on) p) w)) p [] ≡ cleared (page (image_chip xs on) p) w
      here = get_or-set_same pages p (cleared (page (image_chip xs on) p) w) [] (omega (arith, image_long xs on))

-- ones put over the bytes of a block are the block erased
module _ (xs : List ℕ) (b : ℕ) (on : Bool) (h : b < image_blocks xs) where
  abbrev chip : Chip
  chip = image_chip xs on

  abbrev wiped : List ℕ
  wiped = paste xs (4096 * b) (replicate 4096 255) 4096

  abbrev ones : List ℕ
  ones = replicate 4096 255

  ones_long : length ones ≡ 4096
  ones_long = length-replicate {A = ℕ} 4096 255

  block_within : 16 * b + 16 ≤ length chip.pages
  block_within = omega (arith, image_long xs on)

  -- which of the three parts the page lies in
  part : (q : ℕ) → (q < 16 * b) ⊎ (((16 * b ≤ q) × (q < 16 * b + 16)) ⊎ (16 * b + 16 ≤ q))
  part q =
      elim (dec_lt q (16 * b)) [
        | yes l ↦ inl l
        | no g ↦ elim (dec_lt q (16 * b + 16)) [ yes l ↦ inr (inl (omega arith, l)) | no g2 ↦ inr (inr (omega arith)) ]
      ]

  wide_page : (q : ℕ) → q < 16 * image_blocks xs → length (page (erased chip b) q) ≡ 256
  unfolding blank
  wide_page q l =
      elim (part q) [
        | inl below ↦ ap length (erased_below chip b block_within q below) ∙ image_wide xs on q l
        | inr (inl inside) ↦ ap length (erased_inside chip b block_within q inside.0 inside.1) ∙ length-replicate {A = ℕ} 256 255
        | inr (inr above) ↦ ap length (erased_above chip b block_within q above) ∙ image_wide xs on q l
      ]

  wiped_byte : (q k : ℕ) → q < 16 * image_blocks xs → k < 256 → get_or (page (erased chip b) q) k 0 ≡ get_or wiped (256 * q + k) 0 % 256
  unfolding blank
  wiped_byte q k l m =
      elim (part q) [
        | inl below ↦
            ap (λ ys. get_or ys k 0) (erased_below chip b block_within q below) ∙ image_byte xs on q k l m
            ∙ ap (λ x. x % 256) (sym (paste_before xs ones (4096 * b) 4096 (omega arith) (omega (arith, ones_long)) (256 * q + k) (omega arith)))
        | inr (inl inside) ↦
            ap (λ ys. get_or ys k 0) (erased_inside chip b block_within q inside.0 inside.1) ∙ get_or-replicate 256 k 255 0 m
            ∙ ap (λ x. x % 256) (sym (paste_within xs ones (4096 * b) 4096 (omega arith) (omega (arith, ones_long)) (256 * q + k) (omega (arith, inside.0)) (omega (arith, inside.1))
            ∙ get_or-replicate 4096 ((256 * q + k) - 4096 * b) 255 0 (omega (arith, inside.0, inside.1))))
        | inr (inr above) ↦
            ap (λ ys. get_or ys k 0) (erased_above chip b block_within q above) ∙ image_byte xs on q k l m
            ∙ ap (λ x. x % 256) (sym (paste_past xs ones (4096 * b) 4096 (omega arith) (omega (arith, ones_long)) (256 * q + k) (omega arith)))
      ]

  pub image_erased : image_chip wiped on ≡ erased chip b
  image_erased =
      image_is xs wiped (erased chip b).pages on (length_paste xs ones (4096 * b) 4096 (omega arith) (omega (arith, ones_long)))
      (erased_long chip b block_within ∙ image_long xs on) wide_page wiped_byte

-- bytes put in short of their end tear the chip
module _ (xs s : List ℕ) (at n : ℕ) (on up : Bool) (within : at + length s ≤ length xs) (enough : n ≤ length s) where
  abbrev short : List ℕ
  short = paste xs at s n

  abbrev full : List ℕ
  full = paste xs at s (length s)

  short_long : length short ≡ length xs
  short_long = length_paste xs s at n (omega arith) enough

  full_long : length full ≡ length xs
  full_long = length_paste xs s at (length s) within (omega arith)

  same_blocks : (ys : List ℕ) → length ys ≡ length xs → image_blocks ys ≡ image_blocks xs
  same_blocks ys e = ap (λ l. min 1000 (l / 4096)) e

  torn_byte : (p k : ℕ) → (get_or (page (image_chip short false) p) k 0 ≡ get_or (page (image_chip xs on) p) k 0) ⊎ (get_or (page (image_chip short false) p) k 0 ≡ get_or (page (image_chip full up) p) k 0)
  torn_byte p k =
      let sb = same_blocks short short_long in
      let fb = same_blocks full full_long in
      elim (dec_lt p (16 * image_blocks xs)) [
        | yes h ↦ elim (dec_lt k 256) [
          | yes l ↦ (let es = image_byte short false p k (omega (arith, sb)) l in
              let ex = image_byte xs on p k h l in
              let ef = image_byte full up p k (omega (arith, fb)) l in
              elim (paste_short xs s at n (256 * p + k) within enough) [
                | inl e ↦ inl (es ∙ ap (λ x. x % 256) e ∙ sym ex)
                | inr e ↦ inr (es ∙ ap (λ x. x % 256) e ∙ sym ef)
              ])
          | no g ↦ inl (get_or_past (page (image_chip short false) p) k 0 (omega (arith, image_wide short false p (omega (arith, sb)))) ∙ sym (get_or_past (page (image_chip xs on) p) k 0 (omega (arith, image_wide xs on p h))))
        ]
        | no g ↦ inl (past_zero (image_chip short false).pages p k (omega (arith, image_long short false, sb)) ∙ sym (past_zero (image_chip xs on).pages p k (omega (arith, image_long xs on))))
      ]

  page_long : (p : ℕ) → length (page (image_chip short false) p) ≡ length (page (image_chip xs on) p)
  page_long p =
      let sb = same_blocks short short_long in
      elim (dec_lt p (16 * image_blocks xs)) [
        | yes h ↦ image_wide short false p (omega (arith, sb)) ∙ sym (image_wide xs on p h)
        | no g ↦ ap length (get_or_past (image_chip short false).pages p [] (omega (arith, image_long short false, sb))) ∙ sym (ap length (get_or_past (image_chip xs on).pages p [] (omega (arith, image_long xs on))))
      ]

  pub image_torn : Torn (image_chip xs on) (image_chip full up) (image_chip short false)
  image_torn =
      record {
        spaced = refl;
        same = same_blocks short short_long;
        long = image_long short false ∙ ap (λ b. 16 * b) (same_blocks short short_long) ∙ sym (image_long xs on);
        mixed = λ p. (page_long p, λ k. mixed_byte (get_or (page (image_chip short false) p) k 0) (get_or (page (image_chip xs on) p) k 0) (get_or (page (image_chip full up) p) k 0) (torn_byte p k));
        off = refl;
      }
