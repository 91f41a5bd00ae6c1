-- Bytes cut into pages: each page, each byte of it, and the chip that they make.
use Rattle.std.specs.Prelude.{◌≡◌, ℕ, zero, suc, ◌+◌, ◌-◌, ◌*◌, ◌%◌, ◌<◌, ◌≤◌, Bool, List, [], ◌∷◌, length, get_or, take, drop, slice_index, slice_index_or, slice_range, refl}
use Rattle.std.proofs.Common.{ap, ◌∙◌, arith, length-take, length-drop}
use Rattle.std.proofs.Math.Decide.{dec_lt}
use Rattle.std.proofs.lemmas.List.{drop-drop, get_or-take, get_or-drop, get_or_past, ext_get_or, length-map}
use Rattle.flash.specs.Chip.{Formed, page}
use Rattle.flash.specs.Image.{image_blocks, cut, octets, image_chip}

pub length_cut : (n : ℕ) (xs : List ℕ) → length (cut n xs) ≡ n
length_cut zero xs = refl
length_cut (suc n) xs = ap suc (length_cut n (drop 256 xs))

pub cut_at : (n p : ℕ) (xs : List ℕ) → p < n → slice_index_or (cut n xs) p [] ≡ take 256 (drop (256 * p) xs)
cut_at zero p xs h = absurd (omega arith)
cut_at (suc n) zero xs h = refl
cut_at (suc n) (suc p) xs h =
    let e : 256 + 256 * p ≡ 256 * suc p = omega arith in
    cut_at n p (drop 256 xs) (omega arith) ∙ ap (take 256) (drop-drop (256 * p) 256 xs ∙ ap (λ i. drop i xs) e)

pub cut_wide : (n p : ℕ) (xs : List ℕ) → p < n → 256 * n ≤ length xs → length (slice_index_or (cut n xs) p []) ≡ 256
cut_wide n p xs h fits = ap length (cut_at n p xs h) ∙ simp (length-take, length-drop) (omega arith)

pub cut_byte : (n p k : ℕ) (xs : List ℕ) → p < n → k < 256 → slice_index (slice_index_or (cut n xs) p []) k ≡ slice_index xs (256 * p + k)
cut_byte n p k xs h l =
    ap (λ ys. slice_index ys k) (cut_at n p xs h) ∙ get_or-take 256 (drop (256 * p) xs) k 0 l ∙ get_or-drop (256 * p) xs k 0

pub octet_at : (xs : List ℕ) (k : ℕ) → slice_index (octets xs) k ≡ slice_index xs k % 256
octet_at [] k = refl
octet_at (x ∷ xs) zero = refl
octet_at (x ∷ xs) (suc k) = octet_at xs k

pub length_octets : (xs : List ℕ) → length (octets xs) ≡ length xs
length_octets xs = length-map xs (λ x. x % 256)

-- the bytes of a `u8` slice are their own octets
pub octets_same : (xs : List ℕ) → ((k : ℕ) → slice_index xs k < 256) → octets xs ≡ xs
octets_same xs small =
    ext_get_or 0 (octets xs) xs (length_octets xs) (λ k l. octet_at xs k ∙ (let s : get_or xs k 0 < 256 = small k in omega arith))

-- the bytes of the image reach past its pages
pub image_fits : (xs : List ℕ) → 256 * (16 * image_blocks xs) ≤ length (octets xs)
image_fits xs = let l : length (octets xs) ≡ length xs = length_octets xs in omega arith

pub image_long : (xs : List ℕ) (on : Bool) → length (image_chip xs on).pages ≡ 16 * image_blocks xs
image_long xs on = length_cut (16 * image_blocks xs) (octets xs)

-- a byte past the page, or of a page past the end, reads as 0
pub past_zero : (ps : List (List ℕ)) (p k : ℕ) → length ps ≤ p → slice_index (slice_index_or ps p []) k ≡ 0
past_zero ps p k h = ap (λ ys. slice_index ys k) (get_or_past ps p [] h)

pub image_byte : (xs : List ℕ) (on : Bool) (p k : ℕ) → p < 16 * image_blocks xs → k < 256 → slice_index (page (image_chip xs on) p) k ≡ slice_index xs (256 * p + k) % 256
image_byte xs on p k h l = cut_byte (16 * image_blocks xs) p k (octets xs) h l ∙ octet_at xs (256 * p + k)

pub image_wide : (xs : List ℕ) (on : Bool) (p : ℕ) → p < 16 * image_blocks xs → length (page (image_chip xs on) p) ≡ 256
image_wide xs on p h = cut_wide (16 * image_blocks xs) p (octets xs) h (image_fits xs)

small : (xs : List ℕ) (on : Bool) (p k : ℕ) → slice_index (page (image_chip xs on) p) k < 256
small xs on p k =
    elim (dec_lt p (16 * image_blocks xs)) [
      | yes h ↦ elim (dec_lt k 256) [
        | yes l ↦ (let e = image_byte xs on p k h l in omega (arith, e))
        | no g ↦ (let w = image_wide xs on p h in let e = get_or_past (page (image_chip xs on) p) k 0 (omega (arith, w)) in omega (arith, e))
      ]
      | no g ↦ (let w = image_long xs on in let e = past_zero (image_chip xs on).pages p k (omega (arith, w)) in omega (arith, e))
    ]

pub image_formed : (xs : List ℕ) (on : Bool) → Formed 16 (image_chip xs on)
image_formed xs on =
    record {
      spaced = refl;
      few = omega arith;
      paged = image_long xs on;
      wide = λ p h. image_wide xs on p (let l = image_long xs on in omega (arith, h, l));
      bytes = small xs on;
    }

-- the page p as `&bytes[p * 256..p * 256 + 256]` has it
pub part_is : (p at : ℕ) (xs : List ℕ) → at ≡ 256 * p → slice_range xs at (at + 256) ≡ take 256 (drop (256 * p) xs)
part_is p at xs e =
    let f : (at + 256) - at ≡ 256 = omega arith in
    ap (λ i. take i (drop at xs)) f ∙ ap (λ i. take 256 (drop i xs)) e
