-- The state that tables stand for.
use Rattle.std.specs.Prelude.{ℕ, ◌≤◌, List, length, Some, None, Option, slice_index, slice_index_or}
use Rattle.planner.specs.State.{State, Free}
use Rattle.planner.specs.Making.{Making}
use Rattle.planner.specs.Order.{Slot}
use Rattle.planner.specs.Slots.{listed}
use Rattle.planner.specs.declared.slots.Slots.{Slots}
use Rattle.planner.specs.declared.head.Head.{Head}
use Rattle.planner.specs.declared.head.Phase.{Phase}
use Rattle.planner.specs.declared.head.Phase.TheVariants.{AtRest, MakingRoom}

-- what a place past the end reads as
abbrev pub blank : Slot
blank = record { key = record { file = 0; part = 0 }; place = record { block = 0; index = 0 }; number = 0 }

-- no head is past the last block, with all pages used
abbrev pub head_of : ℕ → Option Head → ℕ
head_of blocks None = blocks
head_of blocks (Some h) = h.block

abbrev pub used_of : ℕ → Option Head → ℕ
used_of per None = per
used_of per (Some h) = h.used

abbrev pub shape : Slots → List ℕ → ℕ → ℕ → ℕ → ℕ → Option Head → State
shape slots high per blocks floor last head =
    record {
      per = per;
      blocks = blocks;
      count = length (listed slots);
      block = λ k. (slice_index_or (listed slots) k blank).place.block;
      index = λ k. (slice_index_or (listed slots) k blank).place.index;
      number = λ k. (slice_index_or (listed slots) k blank).number;
      high = λ b. slice_index high b;
      floor = floor;
      last = last;
      head = head_of blocks head;
      used = used_of per head;
    }

-- the highest number on the flash with which room is still made
abbrev pub spent_above : ℕ
spent_above = 4294901760

-- at rest a block is free, and room is made only as `Making` says
abbrev pub Keeps : Phase → State → Type 0
Keeps AtRest s = (b : ℕ) × Free s b
Keeps (MakingRoom since) s = Making since s × (since ≤ spent_above)
