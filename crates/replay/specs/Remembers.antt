-- The data pages of a chip, remembered in rising order of numbers, or why they cannot be.
use Rattle.std.specs.Prelude.{⊤, ◌≡◌, ℕ, ◌<◌, true, false, ◌⊎◌, List, length, Ok, Err, Result, ◌≢◌, slice_index_or}
use Rattle.flash.specs.declared.fault.FlashFault.TheVariants.{Off}
use Rattle.flash.specs.Chip.{Chip, page}
use Rattle.lookup.specs.Sorts.{InPlace}
use Rattle.page.specs.declared.fields.Page.{Page}
use Rattle.page.specs.declared.fields.PageFault.{PageFault}
use Rattle.page.specs.declared.fields.PageFault.TheVariants.{NotData, OutOfRange}
use Rattle.page.specs.Decoded.{decoded}
use Rattle.replay.specs.declared.fault.ReplayFault.{ReplayFault}
use Rattle.replay.specs.declared.fault.ReplayFault.TheVariants.{WorkPage, Buffer, Blocks, Flash, Empty, Damaged}
use Rattle.replay.specs.declared.seen.Seen.{Seen}
use Rattle.replay.specs.Log.{Logged, LogOf, number_of}
use Rattle.replay.specs.Seen.{seen_of, seen_number}

-- xs are the data pages at places below m, each of them once, by rising number, and each can be read
pub record Remembers (c : Chip) (m : ℕ) (xs : List Seen) : Type 0 where
  pub each : (i : ℕ) (d : Seen) → i < length xs → (p : Logged) × LogOf c p × (p.place < m) × (slice_index_or xs i d ≡ seen_of p)
  pub all : (p : Logged) → LogOf c p → p.place < m → (i : ℕ) × (i < length xs) × ((d : Seen) → slice_index_or xs i d ≡ seen_of p)
  pub rising : (i j : ℕ) (d : Seen) → i < j → j < length xs → seen_number (slice_index_or xs i d) < seen_number (slice_index_or xs j d)
  pub readable : (q : ℕ) → q < m → decoded (page c q) ≢ Err OutOfRange

-- a data page has a field out of its range or a name that is not allowed
abbrev pub Unreadable : Chip → Type 0
Unreadable c = (q : ℕ) × (q < length c.pages) × (decoded (page c q) ≡ Err OutOfRange)

-- two data pages have one number
abbrev pub Twice : Chip → Type 0
Twice c = (p : Logged) × (q : Logged) × LogOf c p × LogOf c q × (number_of p ≡ number_of q) × (p.place ≢ q.place)

-- one page more: remembered if it is data, passed over if it is none, refused if it cannot be read or its number is taken
abbrev pub TakesIn : List Seen → ℕ → Result Page PageFault → Result (Unit {0}) ReplayFault → List Seen → Type 0
TakesIn before place (Ok pg) (Ok _) after = InPlace seen_number before (seen_of (record { place = place; page = pg })) after
TakesIn before place (Ok pg) (Err e) after = (e ≡ Damaged) × ((at : ℕ) × (at < length before) × ((d : Seen) → seen_number (slice_index_or before at d) ≡ number_of (record { place = place; page = pg })))
TakesIn before place (Err NotData) (Ok _) after = after ≡ before
TakesIn before place (Err NotData) (Err e) after = ⊥
TakesIn before place (Err OutOfRange) (Ok _) after = ⊥
TakesIn before place (Err OutOfRange) (Err e) after = e ≡ Damaged

-- all data pages are remembered; or power is off; or one cannot be read, or two have one number
abbrev pub GathersAll : Chip → Result (Unit {0}) ReplayFault → List Seen → Type 0
GathersAll c (Ok _) xs = Remembers c (length c.pages) xs
GathersAll c (Err WorkPage) xs = ⊥
GathersAll c (Err Buffer) xs = ⊥
GathersAll c (Err Blocks) xs = ⊥
GathersAll c (Err (Flash report)) xs = (report ≡ Off) × (c.on ≡ false)
GathersAll c (Err Empty) xs = ⊥
GathersAll c (Err Damaged) xs = (c.on ≡ true) × (Unreadable c ⊎ Twice c)

-- where pages were remembered, power is on unless there is no page at all
abbrev pub Powered : Chip → Result (Unit {0}) ReplayFault → Type 0
Powered c (Ok _) = 0 < length c.pages → c.on ≡ true
Powered c (Err e) = ⊤
