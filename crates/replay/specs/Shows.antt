-- Which remembered page shows a key: the newest counted one that speaks to it, if it sets it.
use Rattle.std.specs.Prelude.{◌≡◌, ℕ, ◌<◌, ◌≤◌, Bool, true, false, List, length, get_or, Some, None, Option, slice_index_or}
use Rattle.object.specs.declared.key.Key.{Key}
use Rattle.replay.specs.declared.seen.Says.{Says}
use Rattle.replay.specs.declared.seen.Says.TheVariants.{Sets, Removes}
use Rattle.replay.specs.declared.seen.Seen.{Seen}
use Rattle.replay.specs.Seen.{seen_number}

-- what is said is said to this key
abbrev pub SaidTo : Option Says → Key → Type 0
SaidTo None k = ⊥
SaidTo (Some (Sets j)) k = j ≡ k
SaidTo (Some (Removes j)) k = j ≡ k

-- the page at i has its flag and a number at or above the floor
abbrev pub CountedAt : List Seen → List Bool → ℕ → ℕ → Type 0
CountedAt xs flags f i = (slice_index_or flags i false ≡ true) × ((d : Seen) → f ≤ seen_number (slice_index_or xs i d))

-- the page at i counts and sets the key, and no later page that counts speaks to it
pub record ShowsAt (xs : List Seen) (flags : List Bool) (f i : ℕ) (k : Key) : Type 0 where
  pub counted : CountedAt xs flags f i
  pub sets : (d : Seen) → (get_or xs i d).says ≡ Some (Sets k)
  pub newest : (j : ℕ) (d : Seen) → i < j → j < length xs → CountedAt xs flags f j → SaidTo (get_or xs j d).says k → ⊥

-- the page at i counts and speaks to the key
abbrev pub SpeaksAt : List Seen → List Bool → ℕ → ℕ → Key → Type 0
SpeaksAt xs flags f i k = CountedAt xs flags f i × ((d : Seen) → SaidTo (slice_index_or xs i d).says k)

-- and so does a page after the one at i
abbrev pub SpokenAfter : List Seen → List Bool → ℕ → ℕ → Key → Type 0
SpokenAfter xs flags f i k = (j : ℕ) × (i < j) × (j < length xs) × SpeaksAt xs flags f j k

-- the key that the page at i shows, exactly where it shows one
abbrev pub Shows : List Seen → List Bool → ℕ → ℕ → Option Key → Type 0
Shows xs flags f i None = (k : Key) → ShowsAt xs flags f i k → ⊥
Shows xs flags f i (Some k) = ShowsAt xs flags f i k
