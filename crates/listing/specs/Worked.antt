-- The listing of a directory and a file in it, byte by byte.
use Rattle.std.specs.Prelude.{[], ◌∷◌, ◌++◌, codes}
use Rattle.page.specs.declared.fields.EntryKind.TheVariants.{File, Directory}
use Rattle.page.specs.Names.{named}
use Rattle.tree.specs.declared.node.Node.{Node}
use Rattle.tree.specs.Tree.{Among}
use Rattle.listing.specs.Listing.{Lines}

-- a directory `cal` at the root
abbrev pub cal : Node
cal = record { file = 4; entry = record { directory = 0; kind = Directory; length = 0; name = named (codes "cal") } }

-- a file `arc` of three bytes in it
abbrev pub arc : Node
arc = record { file = 9; entry = record { directory = 4; kind = File; length = 3; name = named (codes "arc") } }

-- their listing is the two lines `d 0 /cal` and `f 3 /cal/arc`
abbrev pub WorkedListing : Type 0
WorkedListing = Lines (Among (cal ∷ (arc ∷ []))) (4 ∷ (9 ∷ [])) (codes "d 0 /cal" ++ (10 ∷ (codes "f 3 /cal/arc" ++ (10 ∷ []))))
