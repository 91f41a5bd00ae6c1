use Rattle.std.proofs.Common.{◌-◌, sym, subst}
use Rattle.tree.specs.Table.{nodes_of}
use Rattle.tree.specs.Tree.{Among, Reached}
use Rattle.tree.proofs.Deciding.{it_is, it_is_not}
use Rattle.tree.proofs.Ordered.{one_entry}
use Rattle.tree.proofs.Paths.{stands_nowhere, stands_root, stands_below, stands_back}
use Rattle.tree.proofs.table.Tree.+stands.Goals as goal

pub returns-then-names-eq0 : goal.returns-then-names-eq0
returns-then-names-eq0 t c = λ there. it_is_not _ (stands_nowhere (Among (nodes_of c.args.self.now)) c.args.names c.args.node.now.file c.if-names-eq0.true)

pub returns-then-node-eq0 : goal.returns-then-node-eq0
returns-then-node-eq0 t c = λ there.
    it_is _ (_, stands_root (Among (nodes_of c.args.self.now)) c.args.names c.args.node.now.file c.args.node.now.entry c.if-names-eq0.false there c.if-node-eq0.true)

pub returns-in-Some : goal.returns-in-Some
returns-in-Some t c = λ there.
    let E = Among (nodes_of c.args.self.now) in
    let node = c.args.node.now in
    let found = c.in-Some.ensures in
    let stands = c.stands.ensures found.1 in
    let dir = subst (λ f. E f c.in-Some.directory.entry) found.0 found.1 in (
      λ so.
          let above = subst (Reached E (c.args.names - 1)) found.0 (stands.0 so) in
          (_, stands_below E c.args.names node.file node.entry above.0 c.if-names-eq0.false there (c.in-Some.directory.entry, dir, found.2) above.1),
      λ r. stands.1 (subst (Reached E (c.args.names - 1)) (sym found.0) (stands_back E (one_entry (nodes_of c.args.self.now) c.args.self.now.nodes.rising) c.args.names node.file node.entry there c.if-node-eq0.false r).1),
    )

pub returns-in-None : goal.returns-in-None
returns-in-None t c = λ there.
    let E = Among (nodes_of c.args.self.now) in
    let node = c.args.node.now in
    it_is_not _ (λ r. c.in-None.ensures (stands_back E (one_entry (nodes_of c.args.self.now) c.args.self.now.nodes.rising) c.args.names node.file node.entry there c.if-node-eq0.false r).0)
