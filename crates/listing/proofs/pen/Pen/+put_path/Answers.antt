use Rattle.std.proofs.Common.{◌≡◌, ℕ, ◌-◌, List, ◌∷◌, ◌++◌, Some, sym, subst, arith}
use Rattle.page.specs.Names.{name_text}
use Rattle.tree.specs.declared.node.Node.{Node}
use Rattle.tree.specs.declared.table.Tree.{Tree}
use Rattle.tree.specs.Table.{nodes_of}
use Rattle.tree.specs.Tree.{Among, DirectoryAt, Reached, Stands}
use Rattle.tree.proofs.Ordered.{one_entry}
use Rattle.tree.proofs.Paths.{path_short, stands_back, stands_below, stands_nowhere, stands_root}
use Rattle.listing.specs.declared.pen.Pen.{Pen}
use Rattle.listing.specs.Writes.{Above, Adds}
use Rattle.listing.proofs.Writing.{adds_more}
use Rattle.listing.proofs.pen.Pen.+put_path.Goals as goal
use Rattle.listing.proofs.pen.Pen.+put_path.Goals.{in-Some, in_default}

-- an entry that stands has a name
some : (t : Tree) (node : Node) (names : ℕ) → Reached (Among (nodes_of t)) names node.file → names ≡ 0 → ⊥
some t node names s e = stands_nowhere (Among (nodes_of t)) names node.file e s

module _ (t : Tree) (node d : Node) (names : ℕ) (x : Among (nodes_of t) node.file node.entry) (s : Reached (Among (nodes_of t)) names node.file)
    (above : Above (Among (nodes_of t)) node (Some d)) where
  back : DirectoryAt (Among (nodes_of t)) node.entry.directory × Reached (Among (nodes_of t)) (names - 1) node.entry.directory
  back = stands_back (Among (nodes_of t)) (one_entry (nodes_of t) t.nodes.rising) names node.file node.entry x above.0 s

  -- its directory stands with one name less
  up : Reached (Among (nodes_of t)) (names - 1) d.file
  up = subst (Reached (Among (nodes_of t)) (names - 1)) (sym above.1) back.1

  -- and its path goes on from the directory's
  down : (path : List ℕ) → Stands (Among (nodes_of t)) (names - 1) d.file path → Stands (Among (nodes_of t)) names node.file (path ++ (47 ∷ name_text node.entry.name))
  down path p =
      stands_below (Among (nodes_of t)) names node.file node.entry path (some t node names s) x back.0 (subst (λ f. Stands (Among (nodes_of t)) (names - 1) f path) above.1 p)

pub overflow_sub-names : goal.overflow_sub-names
overflow_sub-names t c = let ne = some c.args.tree.now c.args.node.now c.args.names c.requires.stands in omega arith

pub put_path-requires : goal.put_path-requires
put_path-requires t c =
    let ne = some c.args.tree.now c.args.node.now c.args.names c.requires.stands in
    let above = c.in-Some.ensures in (
      omega (arith, c.decreases),
      (omega (arith, c.requires.room), (above.2, up c.args.tree.now c.args.node.now c.in-Some.directory c.args.names c.requires.there c.requires.stands above)),
    )

pub put_name-requires : goal.put_name-requires
put_name-requires t c =
    let ne = some c.args.tree.now c.args.node.now c.args.names c.requires.stands in
    elim c.match-directory_of.branch [
      | in-Some w ↦ let (path, stands, adds) = w.put_path.ensures in rw w.self-is (omega (arith, c.requires.room, adds.writes.ends, adds.long, path_short _ _ _ path stands))
      | in_default w ↦ rw w.self-is (omega (arith, c.requires.room))
    ]

pub returns : goal.returns
returns t c =
    let tree = c.args.tree.now in
    let node = c.args.node.now in
    let ne = some tree node c.args.names c.requires.stands in
    let step = 47 ∷ name_text node.entry.name in
    let named : (p : Pen) → c.match-directory_of.self ≡ p → Adds p step c.put_name.new.self = λ p e. subst (λ q. Adds q step c.put_name.new.self) e c.put_name.ensures in
    elim c.match-directory_of.branch [
      | in-Some w ↦
          let (path, stands, adds) = w.put_path.ensures in
          let short = path_short _ _ _ path stands in (
            path ++ step,
            down tree node w.in-Some.directory c.args.names c.requires.there c.requires.stands w.in-Some.ensures path stands,
            adds_more c.args.self.now w.put_path.new.self c.put_name.new.self path step (omega (arith, c.requires.room)) adds (named w.put_path.new.self w.self-is),
          )
      | in_default w ↦ (_, stands_root (Among (nodes_of tree)) c.args.names node.file node.entry ne c.requires.there w.in_default.ensures, named c.args.self.now w.self-is)
    ]
