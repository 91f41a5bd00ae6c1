-- The lines that a reader of a chip is told fit their memory.
use Rattle.std.proofs.Common.{◌≡◌, ℕ, ◌<◌, ◌≤◌, List, [], ◌∷◌, length, drop, Ok, decimal, ap, arith, lit<, length-append}
use Rattle.std.proofs.lemmas.Fmt.{length-decimal-le}
use Rattle.flash.specs.Chip.{Chip}
use Rattle.listing.specs.Answer.{refusal_line}
use Rattle.listing.specs.Chip.{ListsChip}

pub three_digits : (n : ℕ) → n < 256 → length (decimal n) ≤ 3
three_digits n h = length-decimal-le 3 n (lit< tt) (omega arith) (omega arith)

pub refusal_short : (n : ℕ) → n < 256 → length (refusal_line n) ≤ 12
refusal_short n h = omega (arith, three_digits n h, length-append (decimal n) (10 ∷ []))

-- what a listing fills lies within the memory
pub listing_within : (c : Chip) (before after : List ℕ) (n : ℕ) → length after ≡ 12480 → ListsChip c before (Ok n) after → n ≤ 12480
listing_within c before after n l s =
    let (text, of, long, e) = s.4 in
    omega (arith, long, l, ap length e, length-append text (drop (length text) before))
