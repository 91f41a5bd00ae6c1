-- Which scans are tables that a journal of ours left.
use Rattle.std.specs.Prelude.{◌≡◌, ℕ, ◌+◌, ◌<◌, ◌≤◌, None, Ok, Err, Result, ◌≢◌}
use Rattle.planner.specs.State.{State, Sound, Free, limit}
use Rattle.planner.specs.Shape.{shape}
use Rattle.planner.specs.declared.head.Phase.TheVariants.{AtRest}
use Rattle.planner.specs.declared.scanned.Scanned.{Scanned}
use Rattle.planner.specs.declared.slots.Slots.{Slots}
use Rattle.planner.specs.declared.tables.Tables.{Tables}

-- the state that a scan found: there is no head
abbrev pub found : Scanned → State
found x = shape x.slots x.high x.per_block x.blocks x.floor x.last None

-- 4 to 16 blocks of 4 to 16 pages, no more keys than the limit, and a floor of 1 or more that is not past the next number
pub record Sized (s : State) : Type 0 where
  pub wide : 4 ≤ s.per
  pub slim : s.per ≤ 16
  pub tall : 4 ≤ s.blocks
  pub small : s.blocks ≤ 16
  pub room : s.count ≤ limit s.per s.blocks
  pub some : 0 < s.floor
  pub low : s.floor ≤ s.last + 1

-- the key k is told by a page of the chip, at or above the floor and no higher than its block's highest number
pub record Placed (s : State) (k : ℕ) : Type 0 where
  pub inside : s.block k < s.blocks
  pub fit : s.index k < s.per
  pub counted : s.floor ≤ s.number k
  pub held : s.number k ≤ s.high (s.block k)

-- two keys are told by different pages with different numbers, whose blocks' numbers do not interleave
pub record Agree (s : State) (j k : ℕ) : Type 0 where
  pub apart : s.block j ≡ s.block k → s.index j ≡ s.index k → j ≡ k
  pub unlike : s.number j ≡ s.number k → j ≡ k
  pub order : (s.block j ≢ s.block k) → s.number j < s.number k → s.high (s.block j) < s.number k

-- the scan is of a journal's chip, with a block free
abbrev pub Mountable : State → Type 0
Mountable s = Sound s × (s.per ≤ 16) × (s.blocks ≤ 16) × ((b : ℕ) × Free s b)

-- the tables are as the scan found them, at rest
pub record Mounts (x : Scanned) (t : Tables) : Type 0 where
  pub slots : t.slots ≡ x.slots
  pub high : t.high ≡ x.high
  pub per : t.per ≡ x.per_block
  pub blocks : t.blocks ≡ x.blocks
  pub floor : t.floor ≡ x.floor
  pub last : t.last ≡ x.last
  pub head : t.head ≡ None
  pub phase : t.phase ≡ AtRest

-- tables exactly where the scan is such; else the slots are given back
abbrev pub Mounting : Scanned → Result Tables Slots → Type 0
Mounting x (Ok t) = Mountable (found x) × Mounts x t
Mounting x (Err back) = (Mountable (found x) → ⊥) × (back ≡ x.slots)
