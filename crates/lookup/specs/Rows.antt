-- What a table holds.
use Rattle.std.specs.Prelude.{ℕ, List, take}
use Rattle.lookup.specs.declared.sorted.Ranked.{Ghosts}
use Rattle.lookup.specs.declared.table.Table.{Table}

-- the records that count, in their order
abbrev pub rows : {R : Type 0} {N : ℕ} {g : Ghosts R} → Table R N g → List R
rows t = take t.len t.records
