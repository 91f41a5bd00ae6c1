-- The fields in the three bytes that an entry packs.
use Rattle.std.proofs.Common.{◌≡◌, ℕ, ◌+◌, ◌*◌, ◌/◌, ◌%◌, ◌<◌, arith}

-- each field by the bytes, and the five bits that are left
pub record Unpacked (d l n p : ℕ) : Type 0 where
  pub kind : p / 65536 % 256 / 128 % 2 ≡ d
  pub long : (p / 65536 % 256 / 1 % 128) * 64 + p / 256 % 256 / 4 % 64 ≡ l
  pub named : (p / 256 % 256 / 1 % 4) * 8 + p % 256 / 32 % 8 ≡ n
  pub free : p % 256 % 32 ≡ 31

kind_bits : (d l b : ℕ) → d < 2 → l < 8192 → b ≡ d * 128 + l / 64 → b / 128 % 2 ≡ d
kind_bits d l b ld ll e =
    let h : l / 64 < 128 = omega arith in
    let q : b / 128 ≡ d = omega arith in
    omega arith

length_bits : (d l n b c : ℕ) → d < 2 → l < 8192 → n < 32 → b ≡ d * 128 + l / 64 → c ≡ l % 64 * 4 + n / 8 → (b / 1 % 128) * 64 + c / 4 % 64 ≡ l
length_bits d l n b c ld ll ln e f =
    let h : l / 64 < 128 = omega arith in
    let k : n / 8 < 4 = omega arith in
    let o : b / 1 ≡ b = omega arith in
    let q : b % 128 ≡ l / 64 = omega arith in
    let r : c / 4 ≡ l % 64 = omega arith in
    omega arith

name_bits : (l n c a : ℕ) → n < 32 → c ≡ l % 64 * 4 + n / 8 → a ≡ n % 8 * 32 + 31 → (c / 1 % 4) * 8 + a / 32 % 8 ≡ n
name_bits l n c a ln e f =
    let k : n / 8 < 4 = omega arith in
    let o : c / 1 ≡ c = omega arith in
    let q : c % 4 ≡ n / 8 = omega arith in
    let r : a / 32 ≡ n % 8 = omega arith in
    omega arith

pub unpacked : (d l n p : ℕ) → d < 2 → l < 8192 → n < 32 → p ≡ d * 8388608 + l * 1024 + n * 32 + 31 → Unpacked d l n p
unpacked d l n p ld ll ln e =
    let m : n % 8 * 32 + 31 < 256 = omega arith in
    let q : p / 256 ≡ d * 32768 + l * 4 + n / 8 = omega arith in
    let r : p / 65536 ≡ d * 128 + l / 64 = omega arith in
    let high : p / 65536 % 256 ≡ d * 128 + l / 64 = omega arith in
    let middle : p / 256 % 256 ≡ l % 64 * 4 + n / 8 = omega arith in
    let low : p % 256 ≡ n % 8 * 32 + 31 = omega arith in
    record {
      kind = kind_bits d l _ ld ll high;
      long = length_bits d l n _ _ ld ll ln high middle;
      named = name_bits l n _ _ ln middle low;
      free = omega arith;
    }
