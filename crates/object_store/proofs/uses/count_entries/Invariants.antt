use Rattle.std.proofs.Common.{◌≡◌, ◌+◌, ◌≤◌, drop}
use Rattle.object_store.specs.Objects.{keys_of}
use Rattle.object_store.specs.Uses.{entries_in}
use Rattle.object_store.proofs.uses.count_entries.Given as goal

-- what is counted and what is left make all
abbrev pub invariant-loop-index : goal.invariant-loop-index
invariant-loop-index g l =
    (l.entries ≤ l.index)
    × (l.entries + entries_in (drop l.index (keys_of (g.S.ObjectStore.shelf l.store).objects)) ≡ entries_in (keys_of (g.S.ObjectStore.shelf l.store).objects))
