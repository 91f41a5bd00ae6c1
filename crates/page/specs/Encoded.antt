-- The bytes of a page that holds given fields.
use Rattle.std.specs.Prelude.{ℕ, ◌+◌, ◌-◌, ◌*◌, ◌/◌, ◌%◌, ◌^◌, List, [], ◌∷◌, ◌++◌, length, replicate, sum_by}
use Rattle.page.specs.declared.fields.Header.{Header}
use Rattle.page.specs.declared.fields.EntryKind.{EntryKind}
use Rattle.page.specs.declared.fields.EntryKind.TheVariants.{File, Directory}
use Rattle.page.specs.declared.fields.Entry.{Entry}
use Rattle.page.specs.declared.fields.Content.{Content}
use Rattle.page.specs.declared.fields.Content.TheVariants.{Note, Gone}
use Rattle.page.specs.declared.fields.Content.TheVariants as content
use Rattle.page.specs.declared.fields.Page.{Page}
use Rattle.page.specs.Code.{zeros_of}
use Rattle.page.specs.Names.{name_text}

-- a number in two bytes, high byte first
abbrev pub be16 : ℕ → List ℕ
be16 n = n / 2 ^ 8 % 256 ∷ n % 256 ∷ []

-- in three bytes
abbrev pub be24 : ℕ → List ℕ
be24 n = n / 2 ^ 16 % 256 ∷ n / 2 ^ 8 % 256 ∷ n % 256 ∷ []

-- in four bytes
abbrev pub be32 : ℕ → List ℕ
be32 n = n / 2 ^ 24 % 256 ∷ n / 2 ^ 16 % 256 ∷ n / 2 ^ 8 % 256 ∷ n % 256 ∷ []

-- kind, index and size less 1 in 3, 2 and 2 bits, and a bit at 1
abbrev pub lead : ℕ → Header → ℕ
lead kind h = kind * 2 ^ 5 + h.index * 2 ^ 3 + (h.size - 1) * 2 ^ 1 + 1

-- the header, from byte 2 on
abbrev pub header_bytes : ℕ → Header → List ℕ
header_bytes kind h = (lead kind h ∷ []) ++ be32 h.number ++ be32 h.floor ++ be32 h.file

-- the bit that tells a directory
abbrev pub directory_bit : EntryKind → ℕ
directory_bit File = 0
directory_bit Directory = 1

-- what an entry is, its length and its name's length in 1, 13 and 5 bits, and five bits at 1
abbrev pub packed : Entry → ℕ
packed e = directory_bit e.kind * 2 ^ 23 + e.length * 2 ^ 10 + e.name.len * 2 ^ 5 + 31

-- an entry, from byte 15 on
abbrev pub entry_bytes : Entry → List ℕ
entry_bytes e = be32 e.directory ++ be24 (packed e) ++ name_text e.name

-- what stands after the header
abbrev pub content_bytes : Content → List ℕ
content_bytes Note = []
content_bytes (content.Entry e) = entry_bytes e
content_bytes (content.Chunk c) = (c.index ∷ []) ++ c.bytes
content_bytes Gone = []

-- the number of a content's kind
abbrev pub kind_number : Content → ℕ
kind_number Note = 0
kind_number (content.Entry e) = 1
kind_number (content.Chunk c) = 2
kind_number Gone = 3

-- all fields of a page but its zero count
abbrev pub written : Page → List ℕ
written page = header_bytes (kind_number page.content) page.header ++ content_bytes page.content

-- the bytes from byte 2 on: what is left of the page is ones
unfoldable pub body : Page → List ℕ
body page = written page ++ replicate (254 - length (written page)) 255

-- the page: the zero count of its body, and the body
unfoldable pub encoded : Page → List ℕ
encoded page = be16 (sum_by zeros_of (body page)) ++ body page
