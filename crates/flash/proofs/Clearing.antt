-- Bytes that are cleared by others, byte by byte.
use Rattle.std.proofs.Common.{◌≡◌, ℕ, zero, suc, ◌<◌, ◌≤◌, List, [], ◌∷◌, ◌++◌, length, get_or, take, drop, sym, refl, ap, ◌∙◌, arith}
use Rattle.std.proofs.Math.ListN.{set}
use lib.Bits.{bit_and}
use Rattle.flash.specs.Chip.{cleared}

pub length_cleared : (o w : List ℕ) → length o ≤ length w → length (cleared o w) ≡ length o
length_cleared [] w h = refl
length_cleared (x ∷ o) [] h = absurd (omega arith)
length_cleared (x ∷ o) (y ∷ w) h = ap suc (length_cleared o w (omega arith))

pub cleared_at : (o w : List ℕ) (k : ℕ) → k < length o → k < length w → get_or (cleared o w) k 0 ≡ bit_and (get_or o k 0) (get_or w k 0)
cleared_at [] w k h l = absurd (omega arith)
cleared_at (x ∷ o) [] k h l = absurd (omega arith)
cleared_at (x ∷ o) (y ∷ w) zero h l = refl
cleared_at (x ∷ o) (y ∷ w) (suc k) h l = cleared_at o w k (omega arith) (omega arith)

pub take_cleared : (n : ℕ) (o w : List ℕ) → take n (cleared o w) ≡ cleared (take n o) w
take_cleared zero o w = refl
take_cleared (suc n) [] w = refl
take_cleared (suc n) (x ∷ o) [] = refl
take_cleared (suc n) (x ∷ o) (y ∷ w) = ap (λ zs. bit_and x y ∷ zs) (take_cleared n o w)

-- one byte more is cleared
pub cleared_more : (k n : ℕ) (o w : List ℕ) → n ≡ suc k → k < length o → k < length w
    → set (cleared (take k o) w ++ drop k o) k (bit_and (get_or (cleared (take k o) w ++ drop k o) k 0) (get_or w k 0)) ≡ cleared (take n o) w ++ drop n o
cleared_more k n o w e h l = step k o w h l ∙ ap (λ i. cleared (take i o) w ++ drop i o) (sym e)
  where
    step : (k : ℕ) (o w : List ℕ) → k < length o → k < length w
        → set (cleared (take k o) w ++ drop k o) k (bit_and (get_or (cleared (take k o) w ++ drop k o) k 0) (get_or w k 0)) ≡ cleared (take (suc k) o) w ++ drop (suc k) o
    step k [] w h l = absurd (omega arith)
    step k (x ∷ o) [] h l = absurd (omega arith)
    step zero (x ∷ o) (y ∷ w) h l = refl
    step (suc k) (x ∷ o) (y ∷ w) h l = ap (λ zs. bit_and x y ∷ zs) (step k o w (omega arith) (omega arith))
