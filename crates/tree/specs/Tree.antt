-- Entries under file numbers, the paths they stand at, and what keeps them from being a tree.
use Rattle.std.specs.Prelude.{◌≡◌, ℕ, zero, suc, ◌<◌, ◌⊎◌, List, [], ◌∷◌, ◌++◌, length, Some, None, Option, slice_index_or}
use Rattle.page.specs.declared.fields.Entry.{Entry}
use Rattle.page.specs.declared.fields.EntryKind.TheVariants.{Directory}
use Rattle.page.specs.Names.{name_text}
use Rattle.tree.specs.declared.node.Node.{Node}

-- entries, each under its file number
abbrev pub Entries : Type 1
Entries = ℕ → Entry → Type 0

-- the entries of a table
abbrev pub Among : List Node → Entries
Among nodes file e = (i : ℕ) × (i < length nodes) × ((d : Node) → slice_index_or nodes i d ≡ record { file = file; entry = e })

-- the entry of this file, exactly where there is one
abbrev pub Gets : Entries → ℕ → Option Entry → Type 0
Gets E file None = (e : Entry) → E file e → ⊥
Gets E file (Some e) = E file e

-- a directory has this file number
abbrev pub DirectoryAt : Entries → ℕ → Type 0
DirectoryAt E file = (d : Entry) × E file d × (d.kind ≡ Directory)

-- the entry of this file stands at this path, of at most n names: right below the root, or below a directory that stands so
unfoldable pub Stands : Entries → ℕ → ℕ → List ℕ → Type 0
Stands E zero file path = ⊥
Stands E (suc n) file path =
    (e : Entry) × E file e × (above : List ℕ)
    × (((e.directory ≡ 0) × (above ≡ [])) ⊎ (DirectoryAt E e.directory × Stands E n e.directory above))
    × (path ≡ above ++ (47 ∷ name_text e.name))

-- the root reaches the entry of this file within n names, through directories
abbrev pub Reached : Entries → ℕ → ℕ → Type 0
Reached E n file = (path : List ℕ) × Stands E n file path

-- every entry stands at a path of at most eight names
abbrev pub Rooted : Entries → Type 0
Rooted E = (file : ℕ) (e : Entry) → E file e → Reached E 8 file

-- an entry that stands at no such path
abbrev pub Unreached : Entries → Type 0
Unreached E = (file : ℕ) × (e : Entry) × E file e × ((path : List ℕ) → Stands E 8 file path → ⊥)

-- two entries have one name in one directory
abbrev pub Alike : Entry → Entry → Type 0
Alike a b = (a.directory ≡ b.directory) × (a.name ≡ b.name)

-- two files with one name in one directory, whatever their kinds
pub record Namesakes (E : Entries) : Type 0 where
  pub one : ℕ
  pub other : ℕ
  pub apart : one ≡ other → ⊥
  pub entry : Entry
  pub namesake : Entry
  pub here : E one entry
  pub there : E other namesake
  pub alike : Alike entry namesake
