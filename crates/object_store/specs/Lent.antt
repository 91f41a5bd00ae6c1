-- A table in lent memory as an object store.
use Rattle.std.specs.Prelude.{ℕ, ◌+◌, ◌≤◌, min, true, false, cond, List, [], ◌∷◌, length, take, Result, ◌==◌}
use Rattle.object.specs.declared.key.Key.{Key}
use Rattle.object_store.specs.declared.change.Change.{Change}
use Rattle.object_store.specs.declared.fault.ObjectFault.{ObjectFault}
use Rattle.object_store.specs.declared.kept.Kept.{Kept}
use Rattle.object_store.specs.Fit.{verdict}
use Rattle.object_store.specs.Objects.{Objects, keys_of}
use Rattle.object_store.specs.Shelf.{Shelf, Sound}

-- the first number from n on that no key is of, where keys rise
abbrev pub gap : ℕ → List Key → ℕ
gap n [] = n
gap n (k ∷ ks) = cond (k.file == n) (gap (n + 1) ks) (gap n ks)

-- a map in so many places: its limit is the places, up to 208; power never goes, and numbers are never spent
abbrev pub shelf_of : Objects → ℕ → Shelf
shelf_of os places =
    record { objects = os; mapped = true; limit = min places 208; unused = gap 1 (keys_of os); spent = false; sized = true; steady = true; on = true }

-- the first len places hold the map
abbrev pub table_shelf : List Kept → ℕ → Shelf
table_shelf places len = shelf_of (take len places) (length places)

-- there are so many places, and the map in them is sound
pub record TableWhole (places : List Kept) (len : ℕ) : Type 0 where
  pub within : len ≤ length places
  pub sound : Sound (table_shelf places len)

-- the answer to a batch on the map in the first len places
abbrev pub table_verdict : List Kept → ℕ → List Change → Result (Unit {0}) ObjectFault
table_verdict places len cs = verdict (take len places) (min (length places) 208) (gap 1 (keys_of (take len places))) false cs
