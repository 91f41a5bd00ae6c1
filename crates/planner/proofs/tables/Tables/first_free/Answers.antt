use Rattle.std.proofs.Common.{rules}
use Rattle.planner.specs.Steps.{state}
use Rattle.planner.proofs.Finding.{either_free}
use Rattle.planner.proofs.tables.Tables.first_free.Goals as goal

pub returns : goal.returns
returns c =
    either_free (state c.args.self.now) c.head_block-head.result c.head_block-head.ensures c.free_from.result c.or_else.result c.free_from.ensures _ (λ k. search rules) c.or_else.ensures
