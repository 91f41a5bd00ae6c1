-- Where a list of records has one with a given key.
use Rattle.std.specs.Prelude.{◌≡◌, ℕ, ◌<◌, List, length, Some, None, Option, ◌≢◌, slice_index_or}

-- none of the first n records has the key
abbrev pub Absent : {R K : Type 0} → (R → K) → List R → K → ℕ → Type 0
Absent {R} keyed records key n = (k : ℕ) (d : R) → k < n → keyed (slice_index_or records k d) ≢ key

-- the index of the first record with the key, exactly where there is one
abbrev pub Found : {R K : Type 0} → (R → K) → List R → K → Option ℕ → Type 0
Found {R} keyed records key None = Absent keyed records key (length records)
Found {R} keyed records key (Some i) = (i < length records) × ((d : R) → keyed (slice_index_or records i d) ≡ key) × Absent keyed records key i
