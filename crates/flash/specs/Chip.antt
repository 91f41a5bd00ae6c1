-- What a flash chip is, and what programming and erasing do to it.
use Rattle.std.specs.Prelude.{◌≡◌, ℕ, ◌+◌, ◌*◌, ◌<◌, ◌≤◌, Bool, false, List, [], ◌∷◌, ◌++◌, length, take, drop, replicate, bit_and, bit_xor, slice_index, slice_index_or, slice_set}

-- so many blocks of so many pages each; a page is a list of bytes; and a power that is on or off
pub record Chip : Type 0 where
  pub per_block : ℕ
  pub blocks : ℕ
  pub pages : List (List ℕ)
  pub on : Bool

-- the bytes of one page
abbrev pub page : Chip → ℕ → List ℕ
page c p = slice_index_or c.pages p []

-- a page with every bit at 1
unfoldable pub blank : List ℕ
blank = replicate 256 255

-- what every chip with n pages to a block keeps
pub record Formed (n : ℕ) (c : Chip) : Type 0 where
  pub spaced : c.per_block ≡ n
  pub few : c.blocks ≤ 1000
  pub paged : length c.pages ≡ n * c.blocks
  pub wide : (p : ℕ) → p < length c.pages → length (page c p) ≡ 256
  pub bytes : (p k : ℕ) → slice_index (page c p) k < 256

-- the page p lies in the block b
abbrev pub InBlock : Chip → ℕ → ℕ → Type 0
InBlock c b p = (c.per_block * b ≤ p) × (p < c.per_block * b + c.per_block)

-- the same chip with other pages, or another power
abbrev pub with_pages : Chip → List (List ℕ) → Chip
with_pages c ps = record { per_block = c.per_block; blocks = c.blocks; pages = ps; on = c.on }

abbrev pub powered : Chip → Bool → Chip
powered c on = record { per_block = c.per_block; blocks = c.blocks; pages = c.pages; on = on }

-- a buffer that takes in as much of these bytes as it has room for; what it has beyond them stays
abbrev pub filled : List ℕ → List ℕ → List ℕ
filled before bytes = take (length before) bytes ++ drop (length bytes) before

-- each bit ends as old AND given
abbrev pub cleared : List ℕ → List ℕ → List ℕ
cleared [] given = []
cleared (o ∷ old) [] = []
cleared (o ∷ old) (g ∷ given) = bit_and o g ∷ cleared old given

-- the chip once the page p is programmed with the bytes w
abbrev pub programmed : Chip → ℕ → List ℕ → Chip
programmed c p w = with_pages c (slice_set c.pages p (cleared (page c p) w))

-- the chip once the block b is erased: each bit of its pages ends as 1
abbrev pub erased : Chip → ℕ → Chip
erased c b =
    with_pages c (take (c.per_block * b) c.pages ++ (replicate c.per_block blank ++ drop (c.per_block * b + c.per_block) c.pages))

-- no bit of s differs from both the old and the final one: each is one or the other, in any mixture
abbrev pub Mixed : List ℕ → List ℕ → List ℕ → Type 0
Mixed old final s =
    (length s ≡ length old) × ((k : ℕ) → bit_and (bit_xor (slice_index s k) (slice_index old k)) (bit_xor (slice_index s k) (slice_index final k)) ≡ 0)

-- power went on the way from the chip c to the chip f, and left d: off, and each bit old or final
pub record Torn (c f d : Chip) : Type 0 where
  pub spaced : d.per_block ≡ c.per_block
  pub same : d.blocks ≡ c.blocks
  pub long : length d.pages ≡ length c.pages
  pub mixed : (p : ℕ) → Mixed (page c p) (page f p) (page d p)
  pub off : d.on ≡ false
