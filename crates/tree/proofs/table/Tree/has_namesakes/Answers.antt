use Rattle.std.proofs.Common.{sym, subst}
use Rattle.tree.specs.Sound.{Repeats}
use Rattle.tree.proofs.Sharing.{namesakes_from, repeated_from}
use Rattle.tree.proofs.table.Tree.has_namesakes.Goals as goal

pub returns : goal.returns
returns c =
    let rising = c.args.self.now.nodes.rising in
    let same = c.nodes.ensures in (
      λ e. let r = subst Repeats same (c.repeats.ensures.0 e) in namesakes_from _ rising r.0 r.2,
      λ n. c.repeats.ensures.1 (subst Repeats (sym same) (repeated_from _ rising n)),
    )
