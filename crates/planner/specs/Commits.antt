-- What a batch does to the tables.
use Rattle.std.specs.Prelude.{◌≡◌, ℕ, ◌+◌, ◌^◌, ◌<◌, ◌≤◌, Ok, Err, Result, List, length}
use Rattle.planner.specs.State.{Free, limit}
use Rattle.planner.specs.Batches.{BatchFloor, Batched}
use Rattle.planner.specs.Room.{Room}
use Rattle.planner.specs.Slots.{listed}
use Rattle.planner.specs.Steps.{state}
use Rattle.planner.specs.Written.{Written}
use Rattle.planner.specs.declared.faults.BatchFault.{BatchFault}
use Rattle.planner.specs.declared.faults.BatchFault.TheVariants.{Size, Spent, NoRoom, Full}
use Rattle.planner.specs.declared.head.Phase.TheVariants.{AtRest}
use Rattle.planner.specs.declared.says.Says.{Says}
use Rattle.planner.specs.Order.{Slot}
use Rattle.planner.specs.declared.tables.Tables.{Tables}

-- the slots after the pages, one after another from the head's next page and the next number on
abbrev pub WrittenBy : Tables → List Says → List Slot → Type 0
WrittenBy t pages ys = Written (listed t.slots) pages (state t).head (state t).used (t.last + 1) (length pages) ys

-- the batch has one to four pages, there is room for it, numbers are left, and it leaves no more keys than the limit
pub record CanBatch (t : Tables) (pages : List Says) : Type 0 where
  pub some : 1 ≤ length pages
  pub few : length pages ≤ 4
  pub room : Room (state t) (length pages)
  pub fits : t.last + 4 < 2 ^ 32
  pub limited : (ys : List Slot) → WrittenBy t pages ys → length ys ≤ limit t.per t.blocks

-- the pages are written with the batch's floor, each key is told as they say, and a block is free
pub record Commits (t : Tables) (pages : List Says) (u : Tables) : Type 0 where
  pub floor : BatchFloor (state t) u.floor
  pub written : WrittenBy t pages (listed u.slots)
  pub batched : Batched (state t) (length pages) u.floor (state u)
  pub free : (b : ℕ) × Free (state u) b
  pub rest : u.phase ≡ AtRest

-- why a batch is refused: the first of these that holds
abbrev pub Refused : Tables → List Says → BatchFault → Type 0
Refused t pages Size = 1 ≤ length pages → length pages ≤ 4 → ⊥
Refused t pages Spent = (1 ≤ length pages) × (length pages ≤ 4) × (2 ^ 32 ≤ t.last + 4)
Refused t pages NoRoom = (1 ≤ length pages) × (length pages ≤ 4) × (t.last + 4 < 2 ^ 32) × (Room (state t) (length pages) → ⊥)
Refused t pages Full = (1 ≤ length pages) × (length pages ≤ 4) × (t.last + 4 < 2 ^ 32) × Room (state t) (length pages)
    × ((ys : List Slot) → WrittenBy t pages ys → limit t.per t.blocks < length ys)

-- the batch is written exactly where it can be, else nothing changes
abbrev pub Batches : Tables → List Says → Result (Unit {0}) BatchFault → Tables → Type 0
Batches t pages (Ok _) u = CanBatch t pages × Commits t pages u
Batches t pages (Err why) u = (u ≡ t) × (CanBatch t pages → ⊥) × Refused t pages why

-- pages and numbers allow a batch
abbrev pub MayWrite : Tables → List Says → Result (Unit {0}) BatchFault → Type 0
MayWrite t pages (Ok _) = (1 ≤ length pages) × (length pages ≤ 4) × Room (state t) (length pages) × (t.last + 4 < 2 ^ 32)
MayWrite t pages (Err why) = (CanBatch t pages → ⊥) × Refused t pages why
