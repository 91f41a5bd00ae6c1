-- What is written into lent memory, and where it ends.
use Rattle.std.specs.Prelude.{◌≡◌, ℕ, ◌+◌, ◌≤◌, List, ◌++◌, length, drop, Some, None, Option, ◌≢◌}
use Rattle.page.specs.Pasted.{pasted}
use Rattle.page.specs.declared.fields.Entry.{Entry}
use Rattle.tree.specs.declared.node.Node.{Node}
use Rattle.tree.specs.declared.table.Tree.{Tree}
use Rattle.tree.specs.Tree.{Entries, Stands}
use Rattle.listing.specs.Listing.{LineOf, Lists}
use Rattle.listing.specs.declared.pen.Pen.{Pen}

-- the text stands from `at` up to `end`, and all else is as it was
pub record Writes (before : List ℕ) (at : ℕ) (text : List ℕ) (end : ℕ) (after : List ℕ) : Type 0 where
  pub ends : end ≡ at + length text
  pub buffer : after ≡ pasted before at text

-- the directory that an entry stands in; none right below the root
abbrev pub Above : Entries → Node → Option Node → Type 0
Above E node None = node.entry.directory ≡ 0
Above E node (Some d) = (node.entry.directory ≢ 0) × (d.file ≡ node.entry.directory) × E d.file d.entry

-- the pen wrote the text after what it had written, into the same memory, and left all else
pub record Adds (before : Pen) (text : List ℕ) (after : Pen) : Type 0 where
  pub same : after.out.ghost_name ≡ before.out.ghost_name
  pub long : length after.out.now ≡ length before.out.now
  pub writes : Writes before.out.now before.end text after.end after.out.now

-- it wrote a path of the file's entry
abbrev pub AddsPath : Entries → ℕ → ℕ → Pen → Pen → Type 0
AddsPath E names file before after = (path : List ℕ) × Stands E names file path × Adds before path after

-- it wrote the line of the file's entry
abbrev pub AddsLine : Entries → ℕ → Pen → Pen → Type 0
AddsLine E file before after = (text : List ℕ) × LineOf E file text × (length text ≤ 208) × Adds before text after

-- no file is longer than the chunks of one can hold
abbrev pub Short : Entries → Type 0
Short E = (file : ℕ) (e : Entry) → E file e → e.length ≤ 7168

-- the listing stands at the front of the memory, which is as it was past it
abbrev pub WritesListing : Tree → List ℕ → ℕ → List ℕ → Type 0
WritesListing tree before end after = (text : List ℕ) × Lists tree text × (end ≡ length text) × (after ≡ text ++ drop (length text) before)
