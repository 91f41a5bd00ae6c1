-- Where each field of a page stands: `field page FROM WIDTH` is the number in WIDTH bits from the bit FROM on.
use Rattle.std.specs.Prelude.{ℕ, ◌+◌, min, cond, List, take, drop, Some, None, Option, ◌==◌}
use Rattle.page.specs.declared.names.Name.{Name}
use Rattle.page.specs.declared.fields.Header.{Header}
use Rattle.page.specs.declared.fields.EntryKind.{EntryKind}
use Rattle.page.specs.declared.fields.EntryKind.TheVariants.{File, Directory}
use Rattle.page.specs.declared.fields.Entry.{Entry}
use Rattle.page.specs.declared.fields.Chunk.{Chunk}
use Rattle.page.specs.declared.fields.Content.{Content}
use Rattle.page.specs.declared.fields.Content.TheVariants.{Note, Gone}
use Rattle.page.specs.declared.fields.Content.TheVariants as content
use Rattle.page.specs.Bits.{field}
use Rattle.page.specs.Names.{padded}

-- what every data page holds: its place in a group, its number, the floor and the file it speaks of
abbrev pub header_at : List ℕ → Header
header_at page = record { index = field page 19 2; size = field page 21 2 + 1; number = field page 24 32; floor = field page 56 32; file = field page 88 32 }

-- the name of an entry: its bytes, at most 24, from byte 22 on
abbrev pub name_at : List ℕ → Name
name_at page = record { len = field page 166 5; bytes = padded (take (min 24 (field page 166 5)) (drop 22 page)) }

-- whether an entry is a file's or a directory's
abbrev pub kind_at : List ℕ → EntryKind
kind_at page = cond (field page 152 1 == 1) Directory File

-- an entry: its directory, what it is, its length and its name
abbrev pub entry_at : List ℕ → Entry
entry_at page = record { directory = field page 120 32; kind = kind_at page; length = field page 153 13; name = name_at page }

-- a chunk: its place in the file, and its 224 bytes from byte 16 on
abbrev pub chunk_at : List ℕ → Chunk
chunk_at page = record { index = field page 120 8; bytes = take 224 (drop 16 page) }

-- what a page says by its kind, 0 to 3; no other kind says anything
abbrev pub content_of_kind : ℕ → List ℕ → Option Content
content_of_kind kind page =
    cond (kind == 0) (Some Note) (cond (kind == 1) (Some (content.Entry (entry_at page))) (cond (kind == 2) (Some (content.Chunk (chunk_at page))) (cond (kind == 3) (Some Gone) None)))

-- what a page says beside its header
abbrev pub content_at : List ℕ → Option Content
content_at page = content_of_kind (field page 16 3) page
