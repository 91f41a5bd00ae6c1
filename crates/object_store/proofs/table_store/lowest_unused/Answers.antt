use Rattle.std.proofs.Common.{true, false, sym, ◌∙◌, rules}
use Rattle.std.proofs.lemmas.Bool.{eq-eqb, ne_eqb}
use Rattle.std.proofs.lemmas.List.{at_drop_all}
use Rattle.object_store.specs.Lent.{gap}
use Rattle.object_store.specs.Objects.{Objects, keys_of}
use Rattle.object_store.proofs.Gaps.{gap_on}
use Rattle.object_store.proofs.Nothing.{no_kept}
use Rattle.object_store.proofs.table_store.lowest_unused.Goals as goal
use Rattle.object_store.proofs.table_store.lowest_unused.Goals.{then-kept-number, else-kept-number}

pub loop-kept-preserved : goal.loop-kept-preserved
loop-kept-preserved c =
    elim c.if-kept-number.branch [
      | then-kept-number w ↦ gap_on c.args.map.now c.loop-kept.kept-index no_kept c.loop-kept.number c.if-kept-number.number true c.loop-kept-test.true c.loop-kept.invariant (eq-eqb _ _ w.if-kept-number.true) w.number-is
      | else-kept-number w ↦ gap_on c.args.map.now c.loop-kept.kept-index no_kept c.loop-kept.number c.if-kept-number.number false c.loop-kept-test.true c.loop-kept.invariant (ne_eqb _ _ w.if-kept-number.false) w.number-is
    ]

pub returns : goal.returns
returns c = sym (at_drop_all (λ (os : Objects). gap c.loop-kept.number (keys_of os)) c.args.map.now c.loop-kept.kept-index (search rules)) ∙ c.loop-kept.invariant.1
