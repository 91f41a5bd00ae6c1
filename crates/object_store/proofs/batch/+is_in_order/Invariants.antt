use Rattle.std.proofs.Common.{length}
use Rattle.object_store.proofs.batch.+is_in_order.Given as goal

abbrev pub decreases-is_in_order : goal.decreases-is_in_order
decreases-is_in_order l = length l.changes.now
