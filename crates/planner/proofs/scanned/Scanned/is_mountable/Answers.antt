use Rattle.std.proofs.Common.{sym, ◌∙◌}
use Rattle.std.proofs.lemmas.Bool.{false≢true}
use Rattle.planner.proofs.Judging.{judged}
use Rattle.planner.proofs.scanned.Scanned.is_mountable.Goals as goal
use Rattle.planner.proofs.scanned.Scanned.is_mountable.Goals.{then-is_sized, else-is_sized, then-is_last, else-is_last, then-are_placed, else-are_placed}

pub returns-then-all_agree : goal.returns-then-all_agree
returns-then-all_agree c =
    elim c.if-are_placed.branch [
      | else-are_placed a ↦ absurd (false≢true (sym a.if-are_placed.false ∙ sym a.value-is ∙ c.if-all_agree.true))
      | then-are_placed a ↦ elim c.if-is_last.branch [
        | else-is_last p ↦ absurd (false≢true (sym p.if-is_last.false ∙ sym p.value-is ∙ a.if-are_placed.true))
        | then-is_last p ↦ elim c.if-is_sized.branch [
          | else-is_sized l ↦ absurd (false≢true (sym l.if-is_sized.false ∙ sym l.value-is ∙ p.if-is_last.true))
          | then-is_sized l ↦
              judged c.args.self.now (c.is_sized.ensures.0 l.if-is_sized.true) (l.is_last.ensures.0 (sym l.value-is ∙ p.if-is_last.true))
              (p.are_placed.ensures.0 (sym p.value-is ∙ a.if-are_placed.true))
              (a.all_agree.ensures.0 (sym a.value-is ∙ c.if-all_agree.true)) c.has_free.result c.has_free.ensures
        ]
      ]
    ]
