use Rattle.std.proofs.Common.{◌≡◌, ◌+◌, ◌≤◌, drop}
use Rattle.object_store.specs.Lent.{gap}
use Rattle.object_store.specs.Objects.{keys_of}
use Rattle.object_store.proofs.table_store.lowest_unused.Given as goal

-- what is left leads from the number reached to that of all
abbrev pub invariant-loop-kept : goal.invariant-loop-kept
invariant-loop-kept l = (l.number ≤ l.kept-index + 1) × (gap l.number (keys_of (drop l.kept-index l.map)) ≡ gap 1 (keys_of l.map))
