-- A record put in its place by its rank.
use Rattle.std.specs.Prelude.{◌≡◌, ℕ, ◌+◌, ◌<◌, ◌≤◌, ◌⊎◌, List, length, take, Ok, Err, Result, slice_index_or, slice_set}
use Rattle.lookup.specs.Found.{Absent}
use Rattle.std.specs.List.{insert}
use Rattle.lookup.specs.declared.sorted.Unplaced.{Unplaced}
use Rattle.lookup.specs.declared.sorted.Unplaced.TheVariants.{Taken, Full}

-- ys are xs with the new record after those of lower rank and before the next
pub record InPlace {R : Type 0} (ranked : R → ℕ) (xs : List R) (new : R) (ys : List R) : Type 0 where
  pub at : ℕ
  pub within : at ≤ length xs
  pub is : ys ≡ insert xs at new
  pub below : (k : ℕ) (d : R) → k < at → ranked (slice_index_or xs k d) < ranked new
  pub above : (d : R) → at < length xs → ranked new < ranked (slice_index_or xs at d)

-- the record is put among the first `len`; or one of them has its rank; or there is no room
abbrev pub Sorts : {R : Type 0} → (R → ℕ) → List R → ℕ → R → Result (Unit {0}) Unplaced → List R → Type 0
Sorts ranked before len new (Ok _) after = (len < length before) × (length after ≡ length before) × InPlace ranked (take len before) new (take (len + 1) after)
Sorts {R} ranked before len new (Err Taken) after =
    (len < length before) × (after ≡ before) × ((at : ℕ) × (at < len) × ((d : R) → ranked (slice_index_or before at d) ≡ ranked new))
Sorts ranked before len new (Err Full) after = (length before ≤ len) × (after ≡ before)

-- each record ranks below the later ones
abbrev pub Rises : {R : Type 0} → (R → ℕ) → List R → Type 0
Rises {R} ranked xs = (i j : ℕ) (d : R) → i < j → j < length xs → ranked (slice_index_or xs i d) < ranked (slice_index_or xs j d)

-- the new record stands in its place among n at most; or another has its rank; or there are n: then nothing changed
abbrev pub Enters : {R : Type 0} → (R → ℕ) → ℕ → List R → R → Result (Unit {0}) Unplaced → List R → Type 0
Enters ranked n before new (Ok _) after = (length before < n) × InPlace ranked before new after
Enters {R} ranked n before new (Err Taken) after =
    (length before < n) × (after ≡ before) × ((at : ℕ) × (at < length before) × ((d : R) → ranked (slice_index_or before at d) ≡ ranked new))
Enters ranked n before new (Err Full) after = (length before ≡ n) × (after ≡ before)

-- the record at the place has the new one's rank
abbrev pub RanksAt : {R : Type 0} → (R → ℕ) → List R → ℕ → R → Type 0
RanksAt {R} ranked xs at new = (at < length xs) × ((d : R) → ranked (slice_index_or xs at d) ≡ ranked new)

-- the new record stands in place of the one with its rank
pub record Replaces {R : Type 0} (ranked : R → ℕ) (xs : List R) (new : R) (ys : List R) : Type 0 where
  pub at : ℕ
  pub within : at < length xs
  pub one : (d : R) → ranked (slice_index_or xs at d) ≡ ranked new
  pub is : ys ≡ slice_set xs at new

-- the new record stands in place of the one with its rank, or else in its own place among n at most; or no record has its rank and there are n: then nothing changed
abbrev pub Puts : {R : Type 0} → (R → ℕ) → ℕ → List R → R → Result (Unit {0}) Unplaced → List R → Type 0
Puts ranked n before new (Ok _) after =
    Replaces ranked before new after ⊎ ((length before < n) × Absent ranked before (ranked new) (length before) × InPlace ranked before new after)
Puts ranked n before new (Err Full) after = (length before ≡ n) × Absent ranked before (ranked new) (length before) × (after ≡ before)
Puts ranked n before new (Err Taken) after = ⊥
