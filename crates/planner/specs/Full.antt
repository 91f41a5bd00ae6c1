-- How many keys a batch leaves.
use Rattle.std.specs.Prelude.{◌≡◌, ℕ, ◌<◌, Bool, List, length, Decides, slice_index_or}
use Rattle.planner.specs.State.{limit}
use Rattle.planner.specs.Slots.{listed}
use Rattle.planner.specs.Written.{Written}
use Rattle.planner.specs.declared.says.Says.{Says}
use Rattle.planner.specs.Order.{Slot}
use Rattle.planner.specs.declared.tables.Tables.{Tables}

-- the same keys in the same order, told by whatever pages
pub record Alike (xs ys : List Slot) : Type 0 where
  pub long : length ys ≡ length xs
  pub keys : (i : ℕ) (d : Slot) → i < length xs → (slice_index_or ys i d).key ≡ (slice_index_or xs i d).key

-- the batch would leave more keys than the limit, wherever its pages are written and whatever was copied before
abbrev pub FullAfter : Tables → List Says → Bool → Type 0
FullAfter t pages r =
    (xs ys : List Slot) (block index number : ℕ) → Alike (listed t.slots) xs → Written xs pages block index number (length pages) ys
    → Decides r (limit t.per t.blocks < length ys)
