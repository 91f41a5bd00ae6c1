-- The bits of a page, numbered from the most significant bit of byte 0, and the fields packed in them.
use Rattle.std.specs.Prelude.{ℕ, zero, suc, ◌+◌, ◌-◌, ◌*◌, ◌/◌, ◌%◌, ◌^◌, List, slice_index}

-- one bit of a page
unfoldable pub bit : List ℕ → ℕ → ℕ
bit page k = slice_index page (k / 8) / 2 ^ (7 - k % 8) % 2

-- the number in `width` bits from the bit `from` on, most significant bit first
unfoldable pub field : List ℕ → ℕ → ℕ → ℕ
field page from zero = 0
field page from (suc width) = 2 * field page from width + bit page (from + width)
