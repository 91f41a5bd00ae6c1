-- What the steps that write a page tell one another.
use Rattle.std.specs.Prelude.{◌≡◌, ℕ, ◌+◌, ◌^◌, ◌<◌, List, [], ◌∷◌, ◌++◌, length, take, drop}
use Rattle.page.specs.declared.fields.Header.{Header}
use Rattle.page.specs.declared.fields.Entry.{Entry}
use Rattle.page.specs.declared.fields.Chunk.{Chunk}
use Rattle.page.specs.declared.fields.Content.{Content}
use Rattle.page.specs.declared.fields.Content.TheVariants.{Note, Gone}
use Rattle.page.specs.declared.fields.Content.TheVariants as content
use Rattle.page.specs.declared.fields.Page.{Page}
use Rattle.page.specs.Code.{blank, zero_count}
use Rattle.page.specs.Encoded.{be16, be24, be32, kind_number, lead, packed}
use Rattle.page.specs.Names.{name_text}

-- what the types of a content's fields say: a number of 32 bits, a chunk of 224 bytes
abbrev pub Sized : Content → Type 0
Sized Note = Unit {0}
Sized (content.Entry e) = e.directory < 2 ^ 32
Sized (content.Chunk c) = length c.bytes ≡ 224
Sized Gone = Unit {0}

-- a page with these bytes in place of those from a place on
unfoldable pub pasted : List ℕ → ℕ → List ℕ → List ℕ
pasted page at bytes = take at page ++ (bytes ++ drop (at + length bytes) page)

-- a page after a header was put into it
abbrev pub with_header : List ℕ → ℕ → Header → List ℕ
with_header page kind h = pasted (pasted (pasted (pasted page 2 (lead kind h ∷ [])) 3 (be32 h.number)) 7 (be32 h.floor)) 11 (be32 h.file)

-- after an entry was
abbrev pub with_entry : List ℕ → Entry → List ℕ
with_entry page e = pasted (pasted (pasted page 15 (be32 e.directory)) 19 (be24 (packed e))) 22 (name_text e.name)

-- after a chunk was
abbrev pub with_chunk : List ℕ → Chunk → List ℕ
with_chunk page c = pasted (pasted page 15 (c.index ∷ [])) 16 c.bytes

-- after whatever a page holds beside its header was
abbrev pub with_content : List ℕ → Content → List ℕ
with_content page Note = page
with_content page (content.Entry e) = with_entry page e
with_content page (content.Chunk c) = with_chunk page c
with_content page Gone = page

-- after its zero count was
abbrev pub with_count : List ℕ → List ℕ
with_count page = pasted page 0 (be16 (zero_count page))

-- a blank page after all parts of a page were put into it, one after another
abbrev pub put_together : Page → List ℕ
put_together page = with_count (with_content (with_header blank (kind_number page.content) page.header) page.content)
