use Rattle.std.proofs.Common.{◌≡◌, ℕ, ◌<◌, List, length, get_or, Err, arith}
use Rattle.lookup.specs.declared.sorted.Unplaced.{Unplaced}
use Rattle.lookup.specs.declared.sorted.Unplaced.TheVariants.{Taken, Full}
use Rattle.lookup.specs.Rows.{rows}
use Rattle.lookup.specs.Sorts.{Enters}
use Rattle.object.specs.declared.slot.Slot.{Slot}
use Rattle.replay.specs.Slots.{slot_at, slot_rank}
use Rattle.replay.proofs.collect.put_slot.Goals as goal

-- a slot with a rank of its own is not refused where there is room
not_refused : (xs ys : List (Slot ℕ)) (new : Slot ℕ) (e : Unplaced) → length xs < 256 → ((i : ℕ) (d : Slot ℕ) → i < length xs → slot_rank (get_or xs i d) ≡ slot_rank new → ⊥)
    → Enters slot_rank 256 xs new (Err e) ys → ⊥
not_refused xs ys new Taken room fresh (few, same, (at, low, is)) = fresh at new low (is new)
not_refused xs ys new Full room fresh (full, same) = omega arith

pub unreachable-requires : goal.unreachable-requires
unreachable-requires c =
    not_refused (rows c.args.slots.now) (rows c.insert.new.self) (slot_at c.args.key c.args.page.now) c.in-Err.field-0 c.requires.room c.requires.new c.in-Err.ensures
