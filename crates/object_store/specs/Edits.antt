-- What becomes of a table whose first records are by rising key.
use Rattle.std.specs.Prelude.{◌≡◌, ℕ, ◌<◌, ◌≤◌, List, length, take, filter}
use Rattle.object.specs.declared.key.Key.{Key}
use Rattle.object_store.specs.declared.change.Change.{Change}
use Rattle.object_store.specs.Counts.{stays}
use Rattle.object_store.specs.Tables.{put_in}

-- the table is as it was, and so is the number of its records
abbrev pub Unchanged : {R : Type 0} → List R → ℕ → ℕ → List R → Type 0
Unchanged before len n after = (after ≡ before) × (n ≡ len)

-- x is put among the first len records, and there are n then; where that would be more than the table has places, nothing changes
pub record Puts {R : Type 0} (key : R → Key) (before : List R) (len : ℕ) (x : R) (n : ℕ) (after : List R) : Type 0 where
  pub long : length after ≡ length before
  pub put : length (put_in key (take len before) x) ≤ length before → take n after ≡ put_in key (take len before) x
  pub count : length (put_in key (take len before) x) ≤ length before → n ≡ length (put_in key (take len before) x)
  pub full : length before < length (put_in key (take len before) x) → Unchanged before len n after

-- of the first len records those that stay are the first n now
pub record Spares {R : Type 0} (key : R → Key) (before : List R) (len : ℕ) (cs : List Change) (n : ℕ) (after : List R) : Type 0 where
  pub long : length after ≡ length before
  pub fewer : n ≤ len
  pub left : take n after ≡ filter (λ (r : R). stays cs (key r)) (take len before)
