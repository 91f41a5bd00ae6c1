-- What it means that the bytes of a page hold given fields, to a reader of either.
use Rattle.std.specs.Prelude.{◌≡◌, ℕ, ◌+◌, ◌*◌, ◌<◌, Bool, true, false, ◌&&◌, ◌||◌, List, Ok, nat_le, nat_lt}
use Rattle.page.specs.declared.fields.Content.{Content}
use Rattle.page.specs.declared.fields.Content.TheVariants.{Note, Gone}
use Rattle.page.specs.declared.fields.Content.TheVariants as content
use Rattle.page.specs.declared.fields.Page.{Page}
use Rattle.page.specs.Bits.{bit}
use Rattle.page.specs.Code.{is_data}
use Rattle.page.specs.Decoded.{decoded}

-- the bits from one place up to another
abbrev pub within : ℕ → ℕ → ℕ → Bool
within from to k = nat_le from k && nat_lt k to

-- the bits of a content's own fields
abbrev pub own_bits : Content → ℕ → Bool
own_bits Note k = false
own_bits (content.Entry e) k = within 120 171 k || within 176 (176 + 8 * e.name.len) k
own_bits (content.Chunk c) k = within 120 1920 k
own_bits Gone k = false

-- the bits of a page that belong to a field
abbrev pub listed : Content → ℕ → Bool
listed c k = within 0 23 k || within 24 120 k || own_bits c k

-- the bytes are data, they read as the page, and every bit of no field is 1
pub record Holds (page : Page) (bytes : List ℕ) : Type 0 where
  pub is_whole : is_data bytes ≡ true
  pub reads : decoded bytes ≡ Ok page
  pub rest : (k : ℕ) → k < 2048 → listed page.content k ≡ false → bit bytes k ≡ 1
