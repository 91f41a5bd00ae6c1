-- A batch with the table of keys that it is judged by.
use Rattle.std.specs.Prelude.{List, map}
use Rattle.object.specs.declared.key.Key.{Key}
use Rattle.object_store.specs.declared.check.Judged.{Judged}

-- the keys that the records of its table stand for
abbrev pub keys_by : {R : Type 0} → (R → Key) → Judged R → List Key
keys_by key j = map key j.table.now
