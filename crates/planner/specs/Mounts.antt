-- The tables are read again from the same chip.
use Rattle.std.specs.Prelude.{◌≡◌, ℕ, ◌<◌, ◌≤◌}
use Rattle.planner.specs.State.{State, Sound, Free}
use Rattle.planner.specs.Moves.{Same}
use Rattle.planner.specs.Making.{Scratch}

-- there is no head, and a block below the floor may have lost pages to a torn erase
pub record Mounted (s m : State) : Type 0 where
  pub per : m.per ≡ s.per
  pub blocks : m.blocks ≡ s.blocks
  pub count : m.count ≡ s.count
  pub kept : (k : ℕ) → k < s.count → Same s k m k
  pub high : (b : ℕ) → b < s.blocks → s.floor ≤ s.high b → m.high b ≡ s.high b
  pub less : (b : ℕ) → b < s.blocks → m.high b ≤ s.high b
  pub floor : m.floor ≡ s.floor
  pub last : s.last ≤ m.last
  pub head : m.head ≡ m.blocks
  pub used : m.used ≡ m.per

-- mounting finds sound tables, and each block free that was free
abbrev pub MountKeeps : Type 0
MountKeeps = (s m : State) → Sound s → Mounted s m → Sound m × ((b : ℕ) → Free s b → Free m b)

-- mounting past a scratch head finds sound tables, and that head free
abbrev pub MountPast : Type 0
MountPast = (s m : State) (r : Scratch s) → Mounted r.opened m → Sound m × Free m s.head
