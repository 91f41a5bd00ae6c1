-- The text of a listing.
use Rattle.std.specs.Prelude.{◌≡◌, ℕ, List, [], ◌∷◌, ◌++◌, map, decimal}
use Rattle.page.specs.declared.fields.Entry.{Entry}
use Rattle.page.specs.declared.fields.EntryKind.{EntryKind}
use Rattle.page.specs.declared.fields.EntryKind.TheVariants.{File, Directory}
use Rattle.tree.specs.declared.table.Tree.{Tree}
use Rattle.tree.specs.Table.{file_of, nodes_of}
use Rattle.tree.specs.Tree.{Entries, Among, Stands}

-- f for a file, d for a directory
abbrev pub letter : EntryKind → ℕ
letter File = 102
letter Directory = 100

-- the line of an entry with this path: letter, length and path, a space between them and a line feed at the end
abbrev pub line : Entry → List ℕ → List ℕ
line e path = letter e.kind ∷ (32 ∷ (decimal e.length ++ (32 ∷ (path ++ (10 ∷ [])))))

-- the text is the line of the file's entry
abbrev pub LineOf : Entries → ℕ → List ℕ → Type 0
LineOf E file text = (e : Entry) × E file e × (path : List ℕ) × Stands E 8 file path × (text ≡ line e path)

-- the lines of these files, one after another
abbrev pub Lines : Entries → List ℕ → List ℕ → Type 0
Lines E [] text = text ≡ []
Lines E (file ∷ files) text = (first : List ℕ) × LineOf E file first × (rest : List ℕ) × Lines E files rest × (text ≡ first ++ rest)

-- the listing of a tree: a line for each entry, by rising file number
abbrev pub Lists : Tree → List ℕ → Type 0
Lists tree text = Lines (Among (nodes_of tree)) (map file_of (nodes_of tree)) text
