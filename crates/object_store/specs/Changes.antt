-- What the changes of a batch speak of, and which of them may be made.
use Rattle.std.specs.Prelude.{ℕ, Bool, true, false, not, ◌&&◌, List, [], ◌∷◌, ◌==◌, nat_le}
use Rattle.std.specs.List.{list_any}
use Rattle.object.specs.declared.key.Key.{Key}
use Rattle.object.specs.declared.value.Object.{Object}
use Rattle.object.specs.declared.value.Object.TheVariants as object
use Rattle.page.specs.Fits.{entry_fits}
use Rattle.object_store.specs.declared.change.Change.{Change}
use Rattle.object_store.specs.declared.change.Change.TheVariants.{Set, Remove}
use Rattle.object_store.specs.Tables.{same_key}

-- the file that a change speaks of
abbrev pub file_of : Change → ℕ
file_of (Set k v) = k.file
file_of (Remove f) = f

-- part 0 is an entry that fits; parts 1 to 32 are chunks
abbrev pub object_fits : ℕ → Object → Bool
object_fits part (object.Entry e) = part == 0 && entry_fits e
object_fits part (object.Chunk bytes) = nat_le 1 part && nat_le part 32

-- what a change says beside its file number is in its range
abbrev pub part_fits : Change → Bool
part_fits (Set k v) = object_fits k.part v
part_fits (Remove f) = true

-- every field of a change is in its range
abbrev pub change_fits : Change → Bool
change_fits c = nat_le 1 (file_of c) && part_fits c

-- this change sets the key
abbrev pub sets : Change → Key → Bool
sets (Set j v) k = same_key j k
sets (Remove f) k = false

-- one of the changes sets the key
abbrev pub sets_key : List Change → Key → Bool
sets_key cs k = list_any (λ c. sets c k) cs

-- this change sets a key of the file
abbrev pub sets_in : Change → ℕ → Bool
sets_in (Set k v) f = k.file == f
sets_in (Remove g) f = false

-- one of the changes sets a key of the file
abbrev pub sets_file : List Change → ℕ → Bool
sets_file cs f = list_any (λ c. sets_in c f) cs

-- this change removes the file
abbrev pub takes : Change → ℕ → Bool
takes (Set k v) f = false
takes (Remove g) f = g == f

-- one of the changes removes the file
abbrev pub removes : List Change → ℕ → Bool
removes cs f = list_any (λ c. takes c f) cs

-- no later change sets a key of a file that this one removes
abbrev pub spares : Change → List Change → Bool
spares (Set k v) later = true
spares (Remove f) later = not (sets_file later f)

-- no key is set after its file's removal
abbrev pub in_order : List Change → Bool
in_order [] = true
in_order (c ∷ cs) = spares c cs && in_order cs
