-- A batch is written into the room made for it.
use Rattle.std.specs.Prelude.{◌≡◌, ℕ, ◌+◌, ◌<◌, ◌≤◌, ◌⊎◌, ◌≢◌}
use Rattle.planner.specs.State.{State, Sound, Free, Lowest, limit}
use Rattle.planner.specs.Moves.{Same}
use Rattle.planner.specs.Room.{Room}

-- the floor of a batch: the lowest number that tells a key before it, or its own first number where there is no key
pub record BatchFloor (s : State) (f : ℕ) : Type 0 where
  pub lowest : (i : ℕ) → Lowest s i → f ≡ s.number i
  pub bare : s.count ≡ 0 → f ≡ s.last + 1

-- the key k of t is told by the page j of the batch
pub record New (s : State) (j : ℕ) (t : State) (k : ℕ) : Type 0 where
  pub block : t.block k ≡ s.head
  pub index : t.index k ≡ s.used + j
  pub number : t.number k ≡ s.last + 1 + j

-- g pages of a batch with the floor f are written to the head: each key told after it is told by the page that told it before, or
-- by a page of the batch. (After a batch that was cut by power each is told as before.)
pub record Batched (s : State) (g f : ℕ) (t : State) : Type 0 where
  pub per : t.per ≡ s.per
  pub blocks : t.blocks ≡ s.blocks
  pub limited : t.count ≤ limit t.per t.blocks
  pub each : (k : ℕ) → k < t.count → ((j : ℕ) × (j < s.count) × Same s j t k) ⊎ ((j : ℕ) × (j < g) × New s j t k)
  pub unlike : (j k : ℕ) → j < t.count → k < t.count → t.number j ≡ t.number k → j ≡ k
  pub here : t.high s.head ≡ s.last + g
  pub high : (b : ℕ) → b < s.blocks → (b ≢ s.head) → t.high b ≡ s.high b
  pub floor : t.floor ≡ f
  pub last : t.last ≡ s.last + g
  pub head : t.head ≡ s.head
  pub used : t.used ≡ s.used + g

-- a batch into the room made for it, whole or cut by power, leaves sound tables and a free block
abbrev pub BatchKeeps : Type 0
BatchKeeps = (s t : State) (g f : ℕ) → Sound s → 1 ≤ g → Room s g → BatchFloor s f → Batched s g f t → Sound t × ((b : ℕ) × Free t b)
