-- What a listing is determined by.
use Rattle.std.specs.Prelude.{◌≡◌, ℕ, List}
use Rattle.page.specs.declared.fields.Entry.{Entry}
use Rattle.tree.specs.declared.table.Tree.{Tree}
use Rattle.tree.specs.Table.{nodes_of}
use Rattle.tree.specs.Tree.{Among}
use Rattle.listing.specs.Listing.{Lists}

-- a tree with no entry under the root's number has one listing at most
abbrev pub OneListing : Type 0
OneListing = (tree : Tree) → ((e : Entry) → Among (nodes_of tree) 0 e → ⊥) → (a b : List ℕ) → Lists tree a → Lists tree b → a ≡ b
