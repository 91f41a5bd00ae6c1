-- What a reader makes of the bytes of a page.
use Rattle.std.specs.Prelude.{ℕ, cond, List, Some, None, Ok, Err, Option, Result}
use Rattle.page.specs.declared.fields.Content.{Content}
use Rattle.page.specs.declared.fields.Header.{Header}
use Rattle.page.specs.declared.fields.Page.{Page}
use Rattle.page.specs.declared.fields.PageFault.{PageFault}
use Rattle.page.specs.declared.fields.PageFault.TheVariants.{NotData, OutOfRange}
use Rattle.page.specs.Code.{is_data}
use Rattle.page.specs.Fields.{header_at, content_at}
use Rattle.page.specs.Fits.{fits}

-- a page with every field in its range, or a refusal
abbrev pub checked : Page → Result Page PageFault
checked page = cond (fits page) (Ok page) (Err OutOfRange)

-- a header with what stands beside it, where its kind is known
abbrev pub assembled : Header → Option Content → Result Page PageFault
assembled h None = Err OutOfRange
assembled h (Some c) = checked (record { header = h; content = c })

-- the page in these bytes, where they are data and every field is in its range
unfoldable pub decoded : List ℕ → Result Page PageFault
decoded bytes = cond (is_data bytes) (assembled (header_at bytes) (content_at bytes)) (Err NotData)
