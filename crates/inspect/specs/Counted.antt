-- How many of some pages are in each state, and which numbers the data pages among them have.
use Rattle.std.specs.Prelude.{◌≡◌, ℕ, ◌<◌, ◌≤◌, min, max, Bool, true, false, List, [], length, Some, None, Ok, Err, count_by, Option, Result, MatchOption, slice_index_or}
use Rattle.std.specs.List.{between}
use Rattle.flash.specs.declared.fault.FlashFault.{FlashFault}
use Rattle.flash.specs.declared.fault.FlashFault.TheVariants.{Off, Range, Program, Erase}
use Rattle.flash.specs.Chip.{Chip}
use Rattle.page.specs.declared.code.PageState.{PageState}
use Rattle.page.specs.declared.code.PageState.TheVariants.{Erased, Data, Spoilt}
use Rattle.page.specs.Bits.{field}
use Rattle.page.specs.Code.{state_of}
use Rattle.inspect.specs.declared.census.Census.{Census}
use Rattle.inspect.specs.declared.census.Numbers.{Numbers}

-- whether two states are the same
abbrev pub same_state : PageState → PageState → Bool
same_state Erased Erased = true
same_state Data Data = true
same_state Spoilt Spoilt = true
same_state _ _ = false

-- how many of the pages are in this state
abbrev pub in_state : PageState → List (List ℕ) → ℕ
in_state s pages = count_by (λ page. same_state s (state_of page)) pages

-- the number field of a page
abbrev pub number_of : List ℕ → ℕ
number_of page = field page 24 32

-- one of the pages is data and has this number
abbrev pub Has : List (List ℕ) → ℕ → Type 0
Has pages n = (k : ℕ) × (k < length pages) × (state_of (slice_index_or pages k []) ≡ Data) × (number_of (slice_index_or pages k []) ≡ n)

-- data pages have the lowest and the highest number, and none has one outside
pub record Spanned (pages : List (List ℕ)) (n : Numbers) : Type 0 where
  pub low : Has pages n.lowest
  pub high : Has pages n.highest
  pub within : (k : ℕ) → k < length pages → state_of (slice_index_or pages k []) ≡ Data → (n.lowest ≤ number_of (slice_index_or pages k [])) × (number_of (slice_index_or pages k []) ≤ n.highest)

-- the census is that of these pages
pub record Counted (pages : List (List ℕ)) (c : Census) : Type 0 where
  pub data_pages : c.«data» ≡ in_state Data pages
  pub spoilt_pages : c.spoilt ≡ in_state Spoilt pages
  pub erased_pages : c.erased ≡ in_state Erased pages
  pub spans : MatchOption c.numbers (in_state Data pages ≡ 0) (Spanned pages)

-- the numbers with one more
abbrev pub widened_by : Option Numbers → ℕ → Numbers
widened_by None n = record { lowest = n; highest = n }
widened_by (Some s) n = record { lowest = min s.lowest n; highest = max s.highest n }

-- the pages from `first` up to `end` are counted; where one cannot be read, the flash's own answer for the first such page
abbrev pub Inspects : Chip → ℕ → ℕ → Result Census FlashFault → Type 0
Inspects c first end (Ok census) = Counted (between first end c.pages) census × (first < end → (c.on ≡ true) × (end ≤ length c.pages))
Inspects c first end (Err Off) = (first < end) × (c.on ≡ false)
Inspects c first end (Err Range) = (first < end) × (c.on ≡ true) × (length c.pages < end)
Inspects c first end (Err (Program page)) = ⊥
Inspects c first end (Err (Erase block)) = ⊥
