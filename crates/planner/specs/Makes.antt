-- What making room comes to: there is always room.
use Rattle.std.specs.Prelude.{◌≡◌, ℕ, ◌+◌, ◌<◌, ◌≤◌, length, Ok, Err, Result}
use Rattle.planner.specs.Room.{Room}
use Rattle.planner.specs.Shape.{spent_above}
use Rattle.planner.specs.Slots.{listed}
use Rattle.planner.specs.Steps.{state, SameKeys}
use Rattle.planner.specs.declared.faults.RoomFault.{RoomFault}
use Rattle.planner.specs.declared.faults.RoomFault.TheVariants.{Size, Spent}
use Rattle.planner.specs.declared.tables.Tables.{Tables}

-- there is room for g pages, for the same keys, and at most one number was used up for each of them
pub record Made (t : Tables) (g : ℕ) (u : Tables) : Type 0 where
  pub room : Room (state u) g
  pub keys : SameKeys t u
  pub numbers : u.last ≤ t.last + length (listed t.slots)

-- room is made for each group of 1 to 4 pages while numbers are left; else nothing changes
abbrev pub MakesRoom : Tables → ℕ → Result (Unit {0}) RoomFault → Tables → Type 0
MakesRoom t g (Ok _) u = (1 ≤ g) × (g ≤ 4) × Made t g u
MakesRoom t g (Err Size) u = (u ≡ t) × (1 ≤ g → g ≤ 4 → ⊥)
MakesRoom t g (Err Spent) u = (u ≡ t) × (1 ≤ g) × (g ≤ 4) × (spent_above < t.last)
