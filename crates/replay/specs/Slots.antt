-- The keys that remembered pages show, each with the page that shows it.
use Rattle.std.specs.Prelude.{◌≡◌, ℕ, ◌<◌, Bool, List, length, get_or, Some, None, Option, slice_index_or}
use Rattle.object.specs.declared.key.Key.{Key}
use Rattle.object.specs.Rank.{key_rank}
use Rattle.replay.specs.declared.seen.Says.TheVariants.{Sets}
use Rattle.replay.specs.declared.seen.Seen.{Seen}
use Rattle.object.specs.declared.slot.Slot.{Slot}
use Rattle.replay.specs.Log.{entry_key}
use Rattle.replay.specs.Seen.{seen_number}
use Rattle.replay.specs.Shows.{ShowsAt}

-- the key with a remembered page
abbrev pub slot_at : Key → Seen → Slot ℕ
slot_at k s = record { key = k; place = s.place; number = seen_number s }

abbrev pub slot_rank : Slot ℕ → ℕ
slot_rank s = key_rank s.key

-- the pages set no key with a part of 256 or more, so that the rank tells keys apart
abbrev pub SmallParts : List Seen → Type 0
SmallParts xs = (i : ℕ) (d : Seen) (k : Key) → i < length xs → (get_or xs i d).says ≡ Some (Sets k) → k.part < 256

-- some page shows the entry of the key's file
abbrev pub Lives : List Seen → List Bool → ℕ → Key → Type 0
Lives xs flags f k = (j : ℕ) × (j < length xs) × ShowsAt xs flags f j (entry_key k.file)

-- the slots are the wanted keys that the first n pages show, each once, in rising order, with the page that shows it
pub record Collects (xs : List Seen) (flags : List Bool) (f n : ℕ) (Wanted : Key → Type 0) (slots : List (Slot ℕ)) : Type 0 where
  pub rising : (i j : ℕ) (d : Slot ℕ) → i < j → j < length slots → slot_rank (slice_index_or slots i d) < slot_rank (slice_index_or slots j d)
  pub each : (i : ℕ) (d : Slot ℕ) → i < length slots
      → (j : ℕ) × (k : Key) × (j < n) × ShowsAt xs flags f j k × Wanted k × ((e : Seen) → slice_index_or slots i d ≡ slot_at k (slice_index_or xs j e))
  pub all : (j : ℕ) (k : Key) → j < n → ShowsAt xs flags f j k → Wanted k
      → (i : ℕ) × (i < length slots) × ((d : Slot ℕ) (e : Seen) → slice_index_or slots i d ≡ slot_at k (slice_index_or xs j e))

-- the wanted key that the page at i shows, exactly where it shows one
abbrev pub ShowsWanted : List Seen → List Bool → ℕ → ℕ → (Key → Type 0) → Option Key → Type 0
ShowsWanted xs flags f i Wanted None = (k : Key) → ShowsAt xs flags f i k → Wanted k → ⊥
ShowsWanted xs flags f i Wanted (Some k) = ShowsAt xs flags f i k × Wanted k
