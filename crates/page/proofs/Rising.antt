-- Bits that rise take zeros away, and a list with as many zeros as before is as it was.
use Rattle.std.proofs.Common.{◌≡◌, ℕ, zero, suc, ◌+◌, ◌-◌, ◌*◌, ◌/◌, ◌%◌, ◌^◌, ◌<◌, ◌≤◌, min, List, [], ◌∷◌, sum_by, sym, refl, ap, ◌∙◌, ap₂, arith}
use lib.Bits.{bit_and, and_step, and_le_r}
use lib.Count.{ones, ones_step, ones-ones}
use Rattle.std.proofs.lemmas.List.Sums.{sum_by-cons}
use Rattle.std.proofs.lemmas.Bool.{eqb-true}
use Rattle.page.specs.Code.{zeros_of, zero_count, stored_count, is_data, Rose, Raised, RisingSpoils}

-- b has as many ones as a or more, and a alone has exactly as many
record More (a b : ℕ) : Type 0 where
  fewer : ones a ≤ ones b
  same : ones a ≡ ones b → a ≡ b

more : (k a b : ℕ) → a < 2 ^ k → b < 2 ^ k → bit_and a b ≡ a → More a b
more zero a b la lb e =
    let za : a ≡ 0 = omega arith in
    let zb : b ≡ 0 = omega arith in
    let ea : ones a ≡ ones b = ap ones (za ∙ sym zb) in
    record { fewer = omega arith; same = λ h. za ∙ sym zb }
more (suc k) a b la lb e =
    let s : bit_and a b ≡ bit_and (a / 2) (b / 2) * 2 + min (a % 2) (b % 2) = and_step a b in
    let ih = more k (a / 2) (b / 2) (omega arith) (omega arith) (omega arith) in
    let f : ones (a / 2) ≤ ones (b / 2) = ih.fewer in
    let oa : ones a ≡ a % 2 + ones (a / 2) = ones_step a in
    let ob : ones b ≡ b % 2 + ones (b / 2) = ones_step b in
    let le : a % 2 ≤ b % 2 = omega arith in
    record {
      fewer = omega arith;
      same = λ h.
          let half : a / 2 ≡ b / 2 = ih.same (omega arith) in
          omega arith;
    }

-- a number of k digits and its complement have k ones together
complement : (k a : ℕ) → a < 2 ^ k → ones a + ones ((2 ^ k - 1) - a) ≡ k
complement zero a l =
    let z : a ≡ 0 = omega arith in
    let e : ones a ≡ ones 0 = ap ones z in
    let n : ones ((2 ^ 0 - 1) - a) ≡ ones 0 = ap ones (omega arith) in
    let o : ones 0 ≡ 0 = ones-ones 0 in
    omega arith
complement (suc k) a l =
    let c = (2 ^ suc k - 1) - a in
    let ih = complement k (a / 2) (omega arith) in
    let oa : ones a ≡ a % 2 + ones (a / 2) = ones_step a in
    let oc : ones c ≡ c % 2 + ones (c / 2) = ones_step c in
    let h : c / 2 ≡ (2 ^ k - 1) - a / 2 = omega arith in
    let oh : ones (c / 2) ≡ ones ((2 ^ k - 1) - a / 2) = ap ones h in
    let low : a % 2 + c % 2 ≡ 1 = omega arith in
    omega arith

pub ones_and_zeros : (b : ℕ) → b < 256 → ones b + zeros_of b ≡ 8
ones_and_zeros b l = complement 8 b l

byte_more : (a b : ℕ) → Rose a b → More a b
byte_more a b r = more 8 a b r.from_byte r.to_byte r.kept

rose_le : (a b : ℕ) → Rose a b → a ≤ b
rose_le a b r = let h : bit_and a b ≤ b = and_le_r a b in let e : bit_and a b ≡ a = r.kept in omega arith

record Fewer (xs ys : List ℕ) : Type 0 where
  le : sum_by zeros_of ys ≤ sum_by zeros_of xs
  same : sum_by zeros_of ys ≡ sum_by zeros_of xs → ys ≡ xs

fewer : (xs ys : List ℕ) → Raised xs ys → Fewer xs ys
fewer [] [] r = record { le = omega arith; same = λ e. refl }
fewer [] (y ∷ ys) r = absurd r
fewer (x ∷ xs) [] r = absurd r
fewer (x ∷ xs) (y ∷ ys) r =
    let ih = fewer xs ys r.1 in
    let m = byte_more x y r.0 in
    let l : sum_by zeros_of ys ≤ sum_by zeros_of xs = ih.le in
    let n : ones x ≤ ones y = m.fewer in
    let zx = ones_and_zeros x r.0.from_byte in
    let zy = ones_and_zeros y r.0.to_byte in
    let sx = sum_by-cons zeros_of x xs in
    let sy = sum_by-cons zeros_of y ys in
    record {
      le = omega arith;
      same = λ e.
          let a : x ≡ y = m.same (omega arith) in
          let b : ys ≡ xs = ih.same (omega arith) in
          ap₂ (λ (h : ℕ) (t : List ℕ). h ∷ t) (sym a) b;
    }

pub rising_spoils : RisingSpoils
unfolding is_data
rising_spoils [] ys l r s = absurd (omega arith)
rising_spoils (a ∷ []) ys l r s = absurd (omega arith)
rising_spoils (a ∷ b ∷ xs) [] l r s = absurd r
rising_spoils (a ∷ b ∷ xs) (c ∷ []) l r s = absurd r.1
rising_spoils (a ∷ b ∷ xs) (c ∷ d ∷ ys) l r s =
    let f = fewer xs ys r.1.1 in
    let le : sum_by zeros_of ys ≤ sum_by zeros_of xs = f.le in
    let ac : a ≤ c = rose_le a c r.0 in
    let bd : b ≤ d = rose_le b d r.1.0 in (
      omega arith,
      λ t.
          let e : stored_count (c ∷ d ∷ ys) ≡ zero_count (c ∷ d ∷ ys) = eqb-true _ _ t in
          let ca : c ≡ a = omega arith in
          let db : d ≡ b = omega arith in
          let t : ys ≡ xs = f.same (omega arith) in
          cc,
    )
