use Rattle.std.proofs.Common.{◌≡◌, length, take}
use Rattle.object_store.specs.Settled.{settled}
use Rattle.object_store.proofs.table_store.TableStore.make.Given as goal

-- the table holds the map with what the changes so far set
abbrev pub invariant-loop-change : goal.invariant-loop-change
invariant-loop-change l =
    (length l.self.places.now ≡ length l.initial.self.places.now)
    × (take l.self.len l.self.places.now ≡ settled l.changes (take l.initial.self.len l.initial.self.places.now) (take l.change-index l.changes))
    × (l.self.len ≡ length (settled l.changes (take l.initial.self.len l.initial.self.places.now) (take l.change-index l.changes)))
