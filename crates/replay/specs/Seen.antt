-- Pages as they are remembered, in rising order of numbers.
use Rattle.std.specs.Prelude.{ℕ, Some, None, Option}
use Rattle.page.specs.declared.fields.Content.{Content}
use Rattle.page.specs.declared.fields.Content.TheVariants.{Note, Gone}
use Rattle.page.specs.declared.fields.Content.TheVariants as content
use Rattle.replay.specs.declared.seen.Says.{Says}
use Rattle.replay.specs.declared.seen.Says.TheVariants.{Sets, Removes}
use Rattle.replay.specs.declared.seen.Seen.{Seen}
use Rattle.replay.specs.Log.{Logged, entry_key, chunk_key}

-- what a page of this file says to which slot
abbrev pub says_by : ℕ → Content → Option Says
says_by file Note = None
says_by file (content.Entry e) = Some (Sets (entry_key file))
says_by file (content.Chunk c) = Some (Sets (chunk_key file c.index))
says_by file Gone = Some (Removes (entry_key file))

-- what is remembered of a page of the log
abbrev pub seen_of : Logged → Seen
seen_of p = record { place = p.place; header = p.page.header; says = says_by p.page.header.file p.page.content }

abbrev pub seen_number : Seen → ℕ
seen_number s = s.header.number
