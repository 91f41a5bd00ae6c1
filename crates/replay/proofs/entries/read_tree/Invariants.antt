use Rattle.tree.specs.Table.{nodes_of}
use Rattle.replay.specs.Entries.{EntriesAt}
use Rattle.replay.proofs.entries.read_tree.Given as goal

abbrev pub invariant-loop-slot : goal.invariant-loop-slot
invariant-loop-slot g l = EntriesAt (g.F.ReadFlash.chip l.powered.flash.now) l.slots l.slot-index (nodes_of l.tree)
