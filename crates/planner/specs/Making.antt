-- What holds while room is made. `m` is the highest number where it began: what is told above m is a copy made since.
use Rattle.std.specs.Prelude.{◌≡◌, ℕ, ◌+◌, ◌<◌, ◌≤◌, ◌⊎◌, ◌≢◌}
use Rattle.planner.specs.State.{State, Sound, Free, Lowest, in_block, old}
use Rattle.planner.specs.Moves.{Same}

-- The head holds nothing but copies made since it was opened: without it the tables are as they were then, sound and at the
-- same floor, so that each key is told by the page that told it then, and the head is empty. And it has a page left for each
-- key in the block of the lowest number.
pub record Scratch (s : State) : Type 0 where
  pub opened : State
  pub sound : Sound opened
  pub bare : opened.used ≡ 0
  pub empty : opened.high s.head ≡ 0
  pub per : opened.per ≡ s.per
  pub blocks : opened.blocks ≡ s.blocks
  pub count : opened.count ≡ s.count
  pub head : opened.head ≡ s.head
  pub floor : opened.floor ≡ s.floor
  pub before : opened.last ≤ s.last
  pub high : (b : ℕ) → b < s.blocks → (b ≢ s.head) → s.high b ≡ opened.high b
  pub kept : (k : ℕ) → k < s.count → (s.block k ≢ s.head) → Same opened k s k
  pub copies : s.used ≡ in_block s s.head
  pub enough : (i : ℕ) → Lowest s i → in_block s (s.block i) + s.used ≤ s.per

-- a block is free, or the head is scratch
abbrev pub Spare : State → Type 0
Spare s = ((b : ℕ) × Free s b) ⊎ Scratch s

-- room is being made since the number m
pub record Making (m : ℕ) (s : State) : Type 0 where
  pub sound : Sound s
  pub headed : s.head < s.blocks
  pub since : m ≤ s.last
  pub olds : (k : ℕ) → k < s.count → s.number k ≤ m → (s.high (s.block k) ≤ m) × (s.block k ≢ s.head)
  pub copies : s.used ≡ in_block s s.head
  pub full : (b : ℕ) → b < s.blocks → (b ≢ s.head) → m < s.high b → s.per ≤ in_block s b
  pub done : 0 < s.count → ((k : ℕ) → k < s.count → m < s.number k) → m < s.floor
  pub spent : s.last + old s m ≤ m + s.count
  pub spare : Spare s
