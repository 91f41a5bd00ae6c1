use Rattle.std.proofs.Common.{◌≡◌, ℕ, ◌+◌, ◌<◌, List, [], ◌∷◌, ◌++◌, map, length, get_or, take, sym, refl, ap, ◌∙◌, subst, arith, rules, length-append}
use Rattle.std.proofs.lemmas.List.{length-take-le, map_more, take_all}
use Rattle.tree.specs.declared.node.Node.{Node}
use Rattle.tree.specs.Table.{file_of, nodes_of}
use Rattle.tree.specs.Tree.{Among}
use Rattle.tree.proofs.Finding.{entry_at}
use Rattle.tree.proofs.Ordered.{nothing}
use Rattle.listing.specs.Listing.{Lines}
use Rattle.listing.proofs.Joining.{adds_none, lines_more, writes_front}
use Rattle.listing.proofs.Writing.{adds_more}
use Rattle.listing.proofs.lines.write_listing.Goals as goal

here : (xs ys : List Node) → xs ≡ ys → (i : ℕ) → i < length xs → Among ys (get_or xs i nothing).file (get_or xs i nothing).entry
here xs ys e i h = subst (λ (zs : List Node). Among zs (get_or xs i nothing).file (get_or xs i nothing).entry) e (entry_at xs i h)

pub loop-node-init : goal.loop-node-init
loop-node-init c = ([], refl, omega arith, adds_none _)

pub put_line-requires-clause-room : goal.put_line-requires-clause-room
put_line-requires-clause-room c =
    let t = c.args.tree.now.nodes in
    let (text, lines, few, adds) = c.loop-node.invariant in
    omega (arith, c.requires.room, few, adds.writes.ends, adds.long, c.loop-node-test.true, ap length c.nodes-node-items.ensures, length-take-le t.len t.records (omega (arith, t.room, t.long)), t.room)

pub put_line-requires-clause-stands : goal.put_line-requires-clause-stands
put_line-requires-clause-stands c = c.requires.rooted _ _ (here c.nodes-node-items.result.now _ c.nodes-node-items.ensures c.loop-node.node-index c.loop-node-test.true)

pub put_line-requires-clause-short : goal.put_line-requires-clause-short
put_line-requires-clause-short c = c.requires.short _ _ (here c.nodes-node-items.result.now _ c.nodes-node-items.ensures c.loop-node.node-index c.loop-node-test.true)

pub loop-node-preserved : goal.loop-node-preserved
loop-node-preserved c =
    let t = c.args.tree.now in
    let xs = c.nodes-node-items.result.now in
    let i = c.loop-node.node-index in
    let same = c.nodes-node-items.ensures in
    let (text, lines, few, adds) = c.loop-node.invariant in
    let (one, is, short, added) = c.put_line.ensures in
    let h : i < length (nodes_of t) = omega (arith, c.loop-node-test.true, ap length same) in
    let more : map file_of (take (i + 1) (nodes_of t)) ≡ map file_of (take i (nodes_of t)) ++ ((get_or xs i nothing).file ∷ []) =
    map_more file_of (nodes_of t) i nothing h ∙ ap (λ (ys : List Node). map file_of (take i (nodes_of t)) ++ ((get_or ys i nothing).file ∷ [])) (sym same) in (
      text ++ one,
      subst (λ (fs : List ℕ). Lines (Among (nodes_of t)) fs (text ++ one)) (sym more) (lines_more (Among (nodes_of t)) (map file_of (take i (nodes_of t))) (get_or xs i nothing).file text one lines is),
      omega (arith, few, short, length-append text one),
      adds_more _ c.loop-node.pen c.put_line.new.self text one
          (omega (arith, c.requires.room, few, h, length-take-le t.nodes.len t.nodes.records (omega (arith, t.nodes.room, t.nodes.long)), t.nodes.room)) adds added,
    )

pub returns : goal.returns
returns c =
    let t = c.args.tree.now in
    let (text, lines, few, adds) = c.loop-node.invariant in
    let front = writes_front c.args.buffer.now c.loop-node.pen.out.now text c.loop-node.pen.end adds.writes in
    let all : take c.loop-node.node-index (nodes_of t) ≡ nodes_of t = take_all c.loop-node.node-index (nodes_of t) (omega (arith, c.loop-node-test.false, ap length c.nodes-node-items.ensures)) in
    let after = front.1 in
    let same = adds.same in
    (text, subst (λ (ns : List Node). Lines (Among (nodes_of t)) (map file_of ns) text) all lines, front.0, search (rules, after, same))
