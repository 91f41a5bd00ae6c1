-- The highest number in each block.
use Rattle.std.specs.Prelude.{◌≡◌, ℕ, ◌/◌, ◌<◌, ◌≤◌, ◌⊎◌, List, length, get_or, slice_index, slice_index_or}
use Rattle.flash.specs.Chip.{Chip, InBlock}
use Rattle.replay.specs.declared.seen.Seen.{Seen}
use Rattle.replay.specs.Log.{LogOf, Logged, number_of}
use Rattle.replay.specs.Seen.{seen_number}

-- t is the highest number of the data pages in the block, or 0 where it has none
pub record BlockTop (c : Chip) (b t : ℕ) : Type 0 where
  pub above : (p : Logged) → LogOf c p → InBlock c b p.place → number_of p ≤ t
  pub here : (t ≡ 0) ⊎ ((p : Logged) × LogOf c p × InBlock c b p.place × (number_of p ≡ t))

-- the numbers of the remembered pages rise
abbrev pub RisingNumbers : List Seen → Type 0
RisingNumbers xs = (i j : ℕ) (d : Seen) → i < j → j < length xs → seen_number (slice_index_or xs i d) < seen_number (slice_index_or xs j d)

-- the same of the first m remembered pages, with n pages to a block
pub record TopAmong (xs : List Seen) (n m b t : ℕ) : Type 0 where
  pub above : (i : ℕ) (d : Seen) → i < m → (get_or xs i d).place / n ≡ b → seen_number (slice_index_or xs i d) ≤ t
  pub here : (t ≡ 0) ⊎ ((i : ℕ) × (i < m) × ((d : Seen) → ((get_or xs i d).place / n ≡ b) × (seen_number (slice_index_or xs i d) ≡ t)))

-- each place of the table has its block's highest number
abbrev pub Tops : List Seen → ℕ → List ℕ → Type 0
Tops xs n tops = (b : ℕ) → b < length tops → TopAmong xs n (length xs) b (slice_index tops b)
