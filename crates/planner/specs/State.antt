-- What the journal knows of its keys and blocks, as functions from places.
use Rattle.std.specs.Prelude.{◌≡◌, ℕ, ◌+◌, ◌-◌, ◌*◌, ◌<◌, ◌≤◌, ◌≢◌, nat_eq, nat_le}
use Rattle.planner.specs.Tally.{tally}

-- `per` pages to a block. Key k is told by the page `index k` of the block `block k`, which has the number `number k`; `high b` is
-- the highest number in the block b. No head is the head `blocks`, with all pages used.
pub record State : Type 0 where
  pub per : ℕ
  pub blocks : ℕ
  pub count : ℕ
  pub block : ℕ → ℕ
  pub index : ℕ → ℕ
  pub number : ℕ → ℕ
  pub high : ℕ → ℕ
  pub floor : ℕ
  pub last : ℕ
  pub head : ℕ
  pub used : ℕ

-- how many keys there may be: three blocks are never counted on
abbrev pub limit : ℕ → ℕ → ℕ
limit per blocks = per * (blocks - 3)

-- The tables of a journal that kept to its rules. `order`: the blocks' numbers do not interleave.
pub record Sound (s : State) : Type 0 where
  pub wide : 4 ≤ s.per
  pub tall : 4 ≤ s.blocks
  pub room : s.count ≤ limit s.per s.blocks
  pub inside : (k : ℕ) → k < s.count → s.block k < s.blocks
  pub fit : (k : ℕ) → k < s.count → s.index k < s.per
  pub apart : (j k : ℕ) → j < s.count → k < s.count → s.block j ≡ s.block k → s.index j ≡ s.index k → j ≡ k
  pub unlike : (j k : ℕ) → j < s.count → k < s.count → s.number j ≡ s.number k → j ≡ k
  pub held : (k : ℕ) → k < s.count → s.number k ≤ s.high (s.block k)
  pub counted : (k : ℕ) → k < s.count → s.floor ≤ s.number k
  pub order : (j k : ℕ) → j < s.count → k < s.count → (s.block j ≢ s.block k) → s.number j < s.number k → s.high (s.block j) < s.number k
  pub highest : (b : ℕ) → b < s.blocks → s.high b ≤ s.last
  pub some : 0 < s.floor
  pub low : s.floor ≤ s.last + 1
  pub within : s.used ≤ s.per
  pub headless : s.blocks ≤ s.head → s.used ≡ s.per
  pub written : (k : ℕ) → k < s.count → s.block k ≡ s.head → s.index k < s.used
  pub newest : 0 < s.used → s.head < s.blocks → s.high s.head ≡ s.last

-- a block is free when all its numbers lie below the floor, and it is not the head
pub record Free (s : State) (b : ℕ) : Type 0 where
  pub real : b < s.blocks
  pub below : s.high b < s.floor
  pub other : b ≡ s.head → ⊥

-- the key i is told by the lowest number
pub record Lowest (s : State) (i : ℕ) : Type 0 where
  pub real : i < s.count
  pub least : (k : ℕ) → k < s.count → s.number i ≤ s.number k

-- how many keys lie in the block b
abbrev pub in_block : State → ℕ → ℕ
in_block s b = tally (λ k. nat_eq (s.block k) b) s.count

-- how many keys are told by a number of at most m
abbrev pub old : State → ℕ → ℕ
old s m = tally (λ k. nat_le (s.number k) m) s.count
