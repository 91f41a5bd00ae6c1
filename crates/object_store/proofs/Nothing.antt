-- Values that stand where only some value is needed: the checker's own defaults for a read past the end.
use Rattle.std.proofs.Common.{[]}
use Rattle.object.specs.declared.value.Object.{Object}
use Rattle.object.specs.declared.value.Object.TheVariants as object
use Rattle.page.specs.declared.fields.EntryKind.TheVariants.{File}
use Rattle.object_store.specs.declared.change.Change.{Change}
use Rattle.object_store.specs.declared.change.Change.TheVariants.{Set}
use Rattle.object_store.specs.declared.kept.Kept.{Kept}

abbrev pub no_object : Object
no_object = object.Entry (record { directory = 0; kind = File; length = 0; name = record { len = 0; bytes = [] } })

abbrev pub no_change : Change
no_change = Set (record { file = 0; part = 0 }) no_object

abbrev pub no_kept : Kept
no_kept = record { key = record { file = 0; part = 0 }; object = no_object }
