-- The page code: bytes 0 and 1 of a data page count the 0 bits of its other bytes.
use Rattle.std.specs.Prelude.{◌≡◌, ℕ, ◌+◌, ◌-◌, ◌*◌, ◌<◌, ◌≤◌, Bool, true, cond, List, [], ◌∷◌, length, drop, sum_by, ◌==◌, bit_and, count_ones, slice_index}
use Rattle.std.specs.Str.{bytes_eq}
unfoldable pub use Rattle.flash.specs.Chip.{blank}
use Rattle.page.specs.declared.code.PageState.{PageState}
use Rattle.page.specs.declared.code.PageState.TheVariants.{Erased, Data, Spoilt}

-- the 0 bits of a byte
abbrev pub zeros_of : ℕ → ℕ
zeros_of b = count_ones (255 - b)

-- the 0 bits of a page after its first two bytes
abbrev pub zero_count : List ℕ → ℕ
zero_count page = sum_by zeros_of (drop 2 page)

-- the number in a page's first two bytes, high byte first
abbrev pub stored_count : List ℕ → ℕ
stored_count page = slice_index page 0 * 256 + slice_index page 1

-- a data page stores its own zero count
unfoldable pub is_data : List ℕ → Bool
is_data page = stored_count page == zero_count page

-- whether every bit of a page is 1
abbrev pub is_blank : List ℕ → Bool
is_blank page = bytes_eq page blank

-- what a page is to a reader
abbrev pub state_of : List ℕ → PageState
state_of page = cond (is_blank page) Erased (cond (is_data page) Data Spoilt)

-- a page that stores at least its zero count: erased, data, or on the way between them
abbrev pub Settled : List ℕ → Type 0
Settled page = zero_count page ≤ stored_count page

-- bits of a byte rose from 0 to 1, or none
pub record Rose (a b : ℕ) : Type 0 where
  pub from_byte : a < 256
  pub to_byte : b < 256
  pub kept : bit_and a b ≡ a

-- bits of a list of bytes rose from 0 to 1, or none
abbrev pub Raised : List ℕ → List ℕ → Type 0
Raised [] [] = Unit {0}
Raised [] (y ∷ ys) = ⊥
Raised (x ∷ xs) [] = ⊥
Raised (x ∷ xs) (y ∷ ys) = Rose x y × Raised xs ys

-- a settled page stays settled as bits rise, and is data afterwards only where it is as it was
abbrev pub RisingSpoils : Type 0
RisingSpoils = (xs ys : List ℕ) → length xs ≡ 256 → Raised xs ys → Settled xs → Settled ys × (is_data ys ≡ true → ys ≡ xs)
