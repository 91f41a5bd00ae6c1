-- The fields of a page by its bytes: a field within one byte, a field in two parts, and a number of four bytes.
use Rattle.std.proofs.Common.{◌≡◌, ℕ, zero, suc, ◌+◌, ◌-◌, ◌*◌, ◌/◌, ◌%◌, ◌^◌, ◌<◌, ◌≤◌, List, get_or, sym, refl, ap, ◌∙◌, ap₂, add-zero, add_assoc, add-suc, mul_assoc, pow-suc, add-one, arith, shr-shr, pow_mono}
use native.Mathlib.Nat.{mod-one}
use lib.Pow.{mod-pow-add}
use Rattle.page.specs.Bits.{bit, field}

pub bit_below : (page : List ℕ) (k : ℕ) → bit page k < 2
unfolding bit
bit_below page k = omega arith

-- a number of fewer than 32 bits has room for one more
pub room_for_bit : (n i : ℕ) → n < 2 ^ i → i < 32 → 2 * n + 1 < 2 ^ 32
room_for_bit n i s l = let p : 2 ^ suc i ≤ 2 ^ 32 = pow_mono {i = suc i} {j = 32} (omega arith) in omega arith

pub field_more : (page : List ℕ) (from w : ℕ) → field page from (w + 1) ≡ 2 * field page from w + bit page (from + w)
unfolding field
field_more page from w = rw add-one

pub field_next : (page : List ℕ) (from w : ℕ) → field page from (suc w) ≡ 2 * field page from w + bit page (from + w)
unfolding field
field_next page from w = refl

pub field_none : (page : List ℕ) (from : ℕ) → field page from 0 ≡ 0
unfolding field
field_none page from = refl

-- a bit by its byte and its place in it
pub bit_in : (page : List ℕ) (at j : ℕ) → j < 8 → bit page (8 * at + j) ≡ get_or page at 0 / 2 ^ (7 - j) % 2
unfolding bit
bit_in page at j l =
    let q : (8 * at + j) / 8 ≡ at = omega arith in
    let r : (8 * at + j) % 8 ≡ j = omega arith in
    ap₂ (λ (a b : ℕ). get_or page a 0 / 2 ^ (7 - b) % 2) q r

-- a field within one byte
pub field_in : (page : List ℕ) (at s w : ℕ) → s + w ≤ 8 → field page (8 * at + s) w ≡ get_or page at 0 / 2 ^ (8 - (s + w)) % 2 ^ w
field_in page at s zero l = field_none page (8 * at + s) ∙ sym (mod-one _)
field_in page at s (suc w) l =
    let b = get_or page at 0 in
    let e = 7 - (s + w) in
    let ih : field page (8 * at + s) w ≡ b / 2 ^ (8 - (s + w)) % 2 ^ w = field_in page at s w (omega arith) in
    let up : 8 - (s + w) ≡ e + 1 = omega arith in
    let low : bit page (8 * at + s + w) ≡ b / 2 ^ e % 2 = ap (bit page) (add_assoc (8 * at) s w) ∙ bit_in page at (s + w) (omega arith) in
    let down : b / 2 ^ (8 - (s + w)) ≡ b / 2 ^ e / 2 ^ 1 = ap (λ k. b / 2 ^ k) up ∙ sym (shr-shr b e 1) in
    let half : field page (8 * at + s) w ≡ b / 2 ^ e / 2 ^ 1 % 2 ^ w = ih ∙ ap (λ n. n % 2 ^ w) down in
    let split : b / 2 ^ e % 2 ^ (w + 1) ≡ (b / 2 ^ e / 2 ^ 1 % 2 ^ w) * 2 ^ 1 + b / 2 ^ e % 2 ^ 1 = mod-pow-add (b / 2 ^ e) w 1 in
    let whole : field page (8 * at + s) (suc w) ≡ b / 2 ^ e % 2 ^ (w + 1) = omega (arith, field_next page (8 * at + s) w, low, half, split) in
    let goal : 8 - (s + suc w) ≡ e = omega arith in
    whole ∙ ap₂ (λ (x y : ℕ). b / 2 ^ x % 2 ^ y) (sym goal) (add-one w)

-- a field in two parts
pub field_split : (page : List ℕ) (from m n : ℕ) → field page from (m + n) ≡ field page from m * 2 ^ n + field page (from + m) n
field_split page from m zero = ap (field page from) (add-zero m) ∙ omega (arith, field_none page (from + m))
field_split page from m (suc n) =
    let ih = field_split page from m n in
    let here : field page from (m + suc n) ≡ 2 * field page from (m + n) + bit page (from + (m + n)) = ap (field page from) (add-suc m n) ∙ field_next page from (m + n) in
    let there = field_next page (from + m) n in
    let same : bit page (from + m + n) ≡ bit page (from + (m + n)) = ap (bit page) (add_assoc from m n) in
    let twice : field page from m * 2 ^ suc n ≡ field page from m * 2 ^ n * 2 = ap (λ k. field page from m * k) (pow-suc 2 n) ∙ sym (mul_assoc (field page from m) (2 ^ n) 2) in
    omega arith

pub field_byte : (page : List ℕ) (at : ℕ) → get_or page at 0 < 256 → field page (8 * at) 8 ≡ get_or page at 0
field_byte page at l =
    let e : field page (8 * at + 0) 8 ≡ get_or page at 0 / 2 ^ 0 % 2 ^ 8 = field_in page at 0 8 (omega arith) in
    let z : field page (8 * at + 0) 8 ≡ field page (8 * at) 8 = ap (λ k. field page k 8) (add-zero (8 * at)) in
    omega arith

field_16 : (page : List ℕ) (at : ℕ) → get_or page at 0 < 256 → get_or page (at + 1) 0 < 256 → field page (8 * at) 16 ≡ get_or page at 0 * 256 + get_or page (at + 1) 0
field_16 page at p q =
    let e : field page (8 * at) 16 ≡ field page (8 * at) 8 * 256 + field page (8 * at + 8) 8 = field_split page (8 * at) 8 8 in
    let z : field page (8 * at + 8) 8 ≡ field page (8 * (at + 1)) 8 = ap (λ k. field page k 8) (omega arith) in
    omega (arith, field_byte page at p, field_byte page (at + 1) q)

-- a number of four bytes, high byte first
pub field_32 : (page : List ℕ) (at : ℕ) →
    get_or page at 0 < 256 → get_or page (at + 1) 0 < 256 → get_or page (at + 2) 0 < 256 → get_or page (at + 3) 0 < 256 →
    field page (8 * at) 32 ≡ get_or page at 0 * 16777216 + get_or page (at + 1) 0 * 65536 + get_or page (at + 2) 0 * 256 + get_or page (at + 3) 0
field_32 page at p q r s =
    let e : field page (8 * at) 32 ≡ field page (8 * at) 16 * 65536 + field page (8 * at + 16) 16 = field_split page (8 * at) 16 16 in
    let z : field page (8 * at + 16) 16 ≡ field page (8 * (at + 2)) 16 = ap (λ k. field page k 16) (omega arith) in
    let three : get_or page (at + 2 + 1) 0 ≡ get_or page (at + 3) 0 = ap (λ k. get_or page k 0) (add_assoc at 2 1) in
    omega (arith, field_16 page at p q, field_16 page (at + 2) r (omega arith))
