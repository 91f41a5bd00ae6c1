-- What code over any object store answers.
use Rattle.std.specs.Prelude.{◌≡◌, ℕ, ◌+◌, Bool, false, cond, List, [], ◌∷◌, Some, None, Ok, Err, Option, Result, ◌==◌}
use Rattle.object.specs.declared.key.Key.{Key}
use Rattle.object.specs.declared.value.Object.{Object}
use Rattle.object.specs.declared.value.Object.TheVariants as object
use Rattle.page.specs.declared.fields.Entry.{Entry}
use Rattle.object_store.specs.declared.change.Change.{Change}
use Rattle.object_store.specs.declared.change.Change.TheVariants.{Set}
use Rattle.object_store.specs.declared.fault.ObjectFault.{ObjectFault}
use Rattle.object_store.specs.Objects.{Objects, found}
use Rattle.object_store.specs.Says.{Batches}
use Rattle.object_store.specs.Shelf.{Shelf}

-- there is a key, and it is of an entry
abbrev pub some_entry : Option Key → Bool
some_entry (Some k) = k.part == 0
some_entry None = false

-- how many of the keys are of entries
abbrev pub entries_in : List Key → ℕ
entries_in [] = 0
entries_in (k ∷ ks) = cond (k.part == 0) 1 0 + entries_in ks

-- the entry that an object is
abbrev pub as_entry : Option Object → Option Entry
as_entry (Some (object.Entry e)) = Some e
as_entry (Some (object.Chunk bytes)) = None
as_entry None = None

-- the entry of a file
abbrev pub entry_under : Objects → ℕ → Option Entry
entry_under os file = as_entry (found os (record { file = file; part = 0 }))

-- the batch that makes an entry under a file number
abbrev pub creating : ℕ → Entry → List Change
creating file entry = Set (record { file = file; part = 0 }) (object.Entry entry) ∷ []

-- an entry made under the number that was unused; or its batch cut or refused
abbrev pub Creates : ℕ → Shelf → Entry → Result ℕ ObjectFault → Shelf → Type 0
Creates n s entry (Ok file) t = (file ≡ s.unused) × Batches n s (creating s.unused entry) (Ok tt) t
Creates n s entry (Err e) t = Batches n s (creating s.unused entry) (Err e) t
