-- Which of the remembered pages have a complete group.
use Rattle.std.specs.Prelude.{◌≡◌, ℕ, zero, suc, ◌+◌, ◌<◌, ◌≤◌, Bool, true, false, ◌⊎◌, List, [], ◌∷◌, length, get_or, slice_index_or}
use Rattle.page.specs.declared.fields.Header.{Header}
use Rattle.replay.specs.declared.seen.Seen.{Seen}
use Rattle.replay.specs.Seen.{seen_number}

abbrev pub seen_index : Seen → ℕ
seen_index s = s.header.index

abbrev pub seen_size : Seen → ℕ
seen_size s = s.header.size

-- numbers rise, and each page's index is below the size of its group
pub record Walkable (xs : List Seen) : Type 0 where
  pub rising : (i j : ℕ) (d : Seen) → i < j → j < length xs → seen_number (slice_index_or xs i d) < seen_number (slice_index_or xs j d)
  pub inside : (i : ℕ) (d : Seen) → i < length xs → seen_index (slice_index_or xs i d) < seen_size (slice_index_or xs i d)

-- the page at i is the one with index k in the group of the page s
pub record PartAt (xs : List Seen) (d s : Seen) (k i : ℕ) : Type 0 where
  pub here : i < length xs
  pub numbered : seen_number (slice_index_or xs i d) + seen_index s ≡ seen_number s + k
  pub indexed : seen_index (slice_index_or xs i d) ≡ k
  pub sized : seen_size (slice_index_or xs i d) ≡ seen_size s

-- every page of the group of s is among the pages
abbrev pub GroupedIn : List Seen → Seen → Seen → Type 0
GroupedIn xs d s = (k : ℕ) → k < seen_size s → (i : ℕ) × PartAt xs d s k i

-- the headers of the first n pages, the newest first
abbrev pub taken : ℕ → List Seen → Seen → List Header
taken zero xs d = []
taken (suc n) xs d = (get_or xs n d).header ∷ taken n xs d

-- a flag is set exactly where the page's group is complete
abbrev pub Marks : List Seen → List Bool → Type 0
Marks xs flags = (j : ℕ) (d : Seen) → j < length xs
    → (slice_index_or flags j false ≡ true → GroupedIn xs d (slice_index_or xs j d)) × (GroupedIn xs d (slice_index_or xs j d) → slice_index_or flags j false ≡ true)

-- the flags from `from` up to `to` are set, and the others are as they were
pub record Flagged (before : List Bool) (from to : ℕ) (after : List Bool) : Type 0 where
  pub long : length after ≡ length before
  pub inside : (j : ℕ) → from ≤ j → j < to → slice_index_or after j false ≡ true
  pub outside : (j : ℕ) → (j < from) ⊎ (to ≤ j) → slice_index_or after j false ≡ slice_index_or before j false
