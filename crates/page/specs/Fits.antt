-- Which pages may be written: every field in its range, and a name that is allowed.
use Rattle.std.specs.Prelude.{ℕ, Bool, ◌&&◌, ◌==◌, nat_le, nat_lt}
use Rattle.page.specs.declared.fields.Header.{Header}
use Rattle.page.specs.declared.fields.EntryKind.{EntryKind}
use Rattle.page.specs.declared.fields.EntryKind.TheVariants.{File, Directory}
use Rattle.page.specs.declared.fields.Entry.{Entry}
use Rattle.page.specs.declared.fields.Content.{Content}
use Rattle.page.specs.declared.fields.Content.TheVariants.{Note, Gone}
use Rattle.page.specs.declared.fields.Content.TheVariants as content
use Rattle.page.specs.declared.fields.Page.{Page}
use Rattle.page.specs.Names.{name_fits}

-- one to four pages to a group, the index below its size, and the floor from 1 up to the page's number
abbrev pub header_fits : Header → Bool
header_fits h = nat_le 1 h.size && nat_le h.size 4 && nat_lt h.index h.size && nat_le 1 h.floor && nat_le h.floor h.number

-- a file's number is that of the page that made it, or of an earlier one
abbrev pub file_fits : Header → Bool
file_fits h = nat_le 1 h.file && nat_le h.file h.number

-- a file has up to 32 chunks of 224 bytes; a directory has no bytes
abbrev pub length_fits : EntryKind → ℕ → Bool
length_fits File n = nat_le n 7168
length_fits Directory n = n == 0

-- an entry's length and name
abbrev pub entry_fits : Entry → Bool
entry_fits e = length_fits e.kind e.length && name_fits e.name

-- a note speaks of no file; each other content of one
abbrev pub content_fits : Header → Content → Bool
content_fits h Note = h.file == 0
content_fits h (content.Entry e) = file_fits h && entry_fits e
content_fits h (content.Chunk c) = file_fits h && nat_lt c.index 32
content_fits h Gone = file_fits h

-- every field of a page is in its range
unfoldable pub fits : Page → Bool
fits page = header_fits page.header && content_fits page.header page.content
