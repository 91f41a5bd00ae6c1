-- Records that lead in rising order, and a record put between the first records of a table.
use Rattle.std.specs.Prelude.{◌≡◌, ℕ, ◌+◌, ◌<◌, ◌≤◌, ◌⊎◌, List, length, take, Ok, Err, Result, slice_index_or}
use Rattle.std.specs.List.{insert}
use Rattle.lookup.specs.declared.sorted.Unplaced.{Unplaced}
use Rattle.lookup.specs.declared.sorted.Unplaced.TheVariants.{Taken, Full}

-- of the table's first `len` records, x now stands before the one at `at`; or there was no room, and nothing changed
abbrev pub Inserts : {T : Type 0} → List T → ℕ → ℕ → T → Result (Unit {0}) Unplaced → List T → Type 0
Inserts before len at x (Ok _) after =
    (len < length before) × (at ≤ len) × (length after ≡ length before) × (take (len + 1) after ≡ insert (take len before) at x)
Inserts before len at x (Err Full) after = ((length before ≤ len) ⊎ (len < at)) × (after ≡ before)
Inserts before len at x (Err Taken) after = ⊥

-- the first n records rank below r, and the next one, if there is one, does not
pub record Leads {R : Type 0} (ranked : R → ℕ) (records : List R) (r n : ℕ) : Type 0 where
  pub within : n ≤ length records
  pub below : (k : ℕ) (d : R) → k < n → ranked (slice_index_or records k d) < r
  pub next : (d : R) → n < length records → r ≤ ranked (slice_index_or records n d)
