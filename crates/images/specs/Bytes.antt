-- The bytes that are programmed for a page of an example.
use Rattle.std.specs.Prelude.{ℕ, ◌+◌, ◌-◌, min, cond, List, ◌++◌, take, drop, replicate, codes, Some, None, Ok, Err, Option, Result}
use Rattle.page.specs.Code.{zero_count}
use Rattle.page.specs.Encoded.{be16, encoded}
use Rattle.page.specs.Fits.{fits}
use Rattle.page.specs.declared.fields.Content.{Content}
use Rattle.page.specs.declared.fields.Header.{Header}
use Rattle.images.specs.declared.bytes.ImageFault.{ImageFault}
use Rattle.images.specs.declared.bytes.ImageFault.TheVariants.{Unfit, Place}
use Rattle.images.specs.declared.placed.Manner.{Manner}
use Rattle.images.specs.declared.placed.Manner.TheVariants.{Altered, Torn, Whole}
use Rattle.images.specs.declared.placed.Placed.{Placed}

-- why an example is not on the chip, in words
abbrev pub told : ImageFault → List ℕ
told Unfit = codes "a field is out of its range, or a name is not allowed"
told Place = codes "a page stands past the chip's end, or its power is off"

-- how many of `count` bytes from `at` on a page has
abbrev pub reached : ℕ → ℕ → ℕ
reached at count = min count (256 - min 256 at)

-- a page with `count` bytes from `at` on set to b, as far as it reaches
abbrev pub overwritten : List ℕ → ℕ → ℕ → ℕ → List ℕ
overwritten page at count b = take (min 256 at) page ++ (replicate (reached at count) b ++ drop (min 256 at + reached at count) page)

-- a page that stores its own zero count
abbrev pub recounted : List ℕ → List ℕ
recounted page = be16 (zero_count page) ++ drop 2 page

-- the bytes of a page after what happens to them
abbrev pub treated : Manner → List ℕ → List ℕ
treated Whole page = page
treated (Torn leading) page = page
treated (Altered at count b) page = recounted (overwritten page at count b)

-- the bytes of a header and what stands beside it, where every field is in its range
abbrev pub made_of : Header → Option Content → Manner → Result (List ℕ) ImageFault
made_of h None m = Err Unfit
made_of h (Some c) m = cond (fits (record { header = h; content = c })) (Ok (treated m (encoded (record { header = h; content = c })))) (Err Unfit)

-- the bytes of a page of an example
abbrev pub bytes_of : Placed → Result (List ℕ) ImageFault
bytes_of p = made_of p.header p.content p.manner
