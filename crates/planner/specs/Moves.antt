-- The two steps that make room: a block is opened, a key is copied.
use Rattle.std.specs.Prelude.{◌≡◌, ℕ, ◌+◌, ◌<◌, ◌≤◌, ◌⊎◌, ◌≢◌}
use Rattle.planner.specs.State.{State}

-- the key k of t is told by the page that told the key j of s
pub record Same (s : State) (j : ℕ) (t : State) (k : ℕ) : Type 0 where
  pub block : t.block k ≡ s.block j
  pub index : t.index k ≡ s.index j
  pub number : t.number k ≡ s.number j

-- the block b is erased, and is the head now
pub record Opened (s : State) (b : ℕ) (t : State) : Type 0 where
  pub per : t.per ≡ s.per
  pub blocks : t.blocks ≡ s.blocks
  pub count : t.count ≡ s.count
  pub kept : (k : ℕ) → k < s.count → Same s k t k
  pub here : t.high b ≡ 0
  pub high : (c : ℕ) → c < s.blocks → (c ≢ b) → t.high c ≡ s.high c
  pub floor : t.floor ≡ s.floor
  pub last : t.last ≡ s.last
  pub head : t.head ≡ b
  pub used : t.used ≡ 0

-- another key lies in the block of the key i, so its copy carries the floor as it stands
pub record Stays (s : State) (i f : ℕ) : Type 0 where
  pub mate : ℕ
  pub real : mate < s.count
  pub other : mate ≡ i → ⊥
  pub near : s.block mate ≡ s.block i
  pub same : f ≡ s.floor

-- the key i is alone in its block, so its copy carries the lowest number that tells another key, or its own where there is none
pub record Rises (s : State) (i f : ℕ) : Type 0 where
  pub alone : (k : ℕ) → k < s.count → (k ≢ i) → s.block k ≢ s.block i
  pub below : (k : ℕ) → k < s.count → (k ≢ i) → f ≤ s.number k
  pub some : ((k : ℕ) × (k < s.count) × (k ≢ i) × (f ≡ s.number k)) ⊎ (((k : ℕ) → k < s.count → k ≡ i) × (f ≡ s.last + 1))

-- the floor that the copy of the key i carries
abbrev pub Carries : State → ℕ → ℕ → Type 0
Carries s i f = Stays s i f ⊎ Rises s i f

-- the key i is copied to the head's next page, with the floor f
pub record Copied (s : State) (i f : ℕ) (t : State) : Type 0 where
  pub per : t.per ≡ s.per
  pub blocks : t.blocks ≡ s.blocks
  pub count : t.count ≡ s.count
  pub block_here : t.block i ≡ s.head
  pub index_here : t.index i ≡ s.used
  pub number_here : t.number i ≡ s.last + 1
  pub kept : (k : ℕ) → k < s.count → (k ≢ i) → Same s k t k
  pub here : t.high s.head ≡ s.last + 1
  pub high : (c : ℕ) → c < s.blocks → (c ≢ s.head) → t.high c ≡ s.high c
  pub floor : t.floor ≡ f
  pub last : t.last ≡ s.last + 1
  pub head : t.head ≡ s.head
  pub used : t.used ≡ s.used + 1
