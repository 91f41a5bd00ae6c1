use Rattle.std.proofs.Common.{rules}
use Rattle.std.proofs.lemmas.Fn.{filter_same}
use Rattle.object_store.proofs.edit.drop_removed.Goals as goal

pub returns-clause-spares : goal.returns-clause-spares
returns-clause-spares g c = λ within.
    record {
      long = c.retain.ensures.long;
      fewer = c.retain.ensures.fewer;
      left = filter_same _ _ _ (λ x b f k. search rules) _ _ c.retain.ensures.kept;
    }
