-- The pages of examples, and what each step of describing one changes.
use Rattle.std.specs.Prelude.{ℕ, ◌-◌, cond, List, ◌++◌, length, take, replicate, Some, None, Option}
use Rattle.page.specs.Names.{allowed, named}
use Rattle.page.specs.declared.fields.Content.{Content}
use Rattle.page.specs.declared.fields.Content.TheVariants as content
use Rattle.page.specs.declared.fields.EntryKind.{EntryKind}
use Rattle.page.specs.declared.fields.Header.{Header}
use Rattle.images.specs.declared.placed.Manner.{Manner}
use Rattle.images.specs.declared.placed.Manner.TheVariants.{Whole}
use Rattle.images.specs.declared.placed.Placed.{Placed}

-- a note alone in its group, whose floor lets every page count
abbrev pub note_at : ℕ → ℕ → Placed
note_at place number =
    record { place = place; header = record { index = 0; size = 1; number = number; floor = 1; file = 0 }; content = Some content.Note; manner = Whole }

-- the page with another header
abbrev pub headed : Placed → Header → Placed
headed p h = record { place = p.place; header = h; content = p.content; manner = p.manner }

-- with another floor
abbrev pub floored : Placed → ℕ → Placed
floored p floor =
    headed p (record { index = p.header.index; size = p.header.size; number = p.header.number; floor = floor; file = p.header.file })

-- with another place in a group
abbrev pub grouped : Placed → ℕ → ℕ → Placed
grouped p index size =
    headed p (record { index = index; size = size; number = p.header.number; floor = p.header.floor; file = p.header.file })

-- with another file and something else to say of it
abbrev pub saying : Placed → ℕ → Option Content → Placed
saying p file c =
    record {
      place = p.place;
      header = record { index = p.header.index; size = p.header.size; number = p.header.number; floor = p.header.floor; file = file };
      content = c;
      manner = p.manner;
    }

-- an entry, where its name is allowed
abbrev pub entry_of : ℕ → EntryKind → ℕ → List ℕ → Option Content
entry_of directory kind length name =
    cond (allowed name) (Some (content.Entry (record { directory = directory; kind = kind; length = length; name = named name }))) None

-- the bytes of a chunk that begins with a text, as far as there is room, and goes on with zeros
abbrev pub chunk_text : List ℕ → List ℕ
chunk_text text = take 224 text ++ replicate (224 - length text) 0

-- such a chunk
abbrev pub chunk_of : ℕ → List ℕ → Content
chunk_of index text = content.Chunk (record { index = index; bytes = chunk_text text })

-- with something else that happens to its bytes
abbrev pub mannered : Placed → Manner → Placed
mannered p m = record { place = p.place; header = p.header; content = p.content; manner = m }
