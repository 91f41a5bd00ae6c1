use Rattle.std.proofs.Common.{◌≡◌, ℕ, ap, sym, subst, arith}
use Rattle.page.specs.declared.fields.Entry.{Entry}
use Rattle.tree.specs.Sound.{FindsDirectory}
use Rattle.tree.specs.Table.{nodes_of}
use Rattle.tree.specs.Tree.{Among}
use Rattle.tree.proofs.Ordered.{one_entry}
use Rattle.tree.proofs.table.Tree.directory.Goals as goal

pub returns-in_err-entry : goal.returns-in_err-entry
returns-in_err-entry c = subst (FindsDirectory (Among (nodes_of c.args.self.now)) c.args.file) (sym c.from_residual.ensures) (λ dir. c.in_err-entry.ensures dir.0 dir.1)

pub returns-in-File : goal.returns-in-File
returns-in-File c = λ dir.
    let same = one_entry _ c.args.self.now.nodes.rising c.args.file c.in_ok-entry.entry dir.0 c.in_ok-entry.ensures dir.1 in
    let kind = ap (λ (e : Entry). e.kind) same in
    let plain = c.in-File.is in
    let directory = dir.2 in
    let z : ◌≡◌ {A = ℕ} 0 1 = cc in omega arith
