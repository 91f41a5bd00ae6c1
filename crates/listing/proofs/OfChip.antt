-- From a scan's tree to the listing of its chip.
use Rattle.std.proofs.Common.{ℕ, ◌<◌, ◌≤◌, List, map, length, get_or, Err, refl, ap, ◌∙◌, arith}
use Rattle.std.proofs.lemmas.List.{get_or-map, length-map}
use Rattle.flash.specs.Chip.{Chip}
use Rattle.page.specs.declared.fields.Entry.{Entry}
use Rattle.replay.specs.declared.fault.ReplayFault.{ReplayFault}
use Rattle.replay.specs.declared.fault.ReplayFault.TheVariants.{WorkPage, Buffer, Blocks, Flash, Empty, Damaged}
use Rattle.replay.specs.declared.tables.Scan.{Scan}
use Rattle.replay.specs.Damage.{Scanned, Scans}
use Rattle.replay.specs.Entries.{EntryShown}
use Rattle.replay.specs.Log.{LogOf, floor_of, Counts}
use Rattle.replay.proofs.Lengths.{entry_short}
use Rattle.tree.specs.declared.node.Node.{Node}
use Rattle.tree.specs.Table.{file_of, nodes_of, Rising}
use Rattle.tree.specs.Tree.{Entries, Among, Rooted}
use Rattle.tree.proofs.Agreeing.{rooted_same}
use Rattle.tree.proofs.Finding.{entry_at}
use Rattle.tree.proofs.Ordered.{nothing}
use Rattle.listing.specs.Chip.{FilesOf, ListingOf, ListsChip}
use Rattle.listing.specs.Listing.{Lists}
use Rattle.listing.specs.Writes.{Short}
use Rattle.listing.proofs.Listings.{lines_same}

-- a refusal of the scan is one of the listing
pub list_refuses : (c : Chip) (before : List ℕ) (e : ReplayFault) → 12480 ≤ length before → Scans c (Err e) → ListsChip c before (Err e) before
list_refuses c before WorkPage h says = absurd says
list_refuses c before Buffer h says = absurd says
list_refuses c before Blocks h says = (h, says, refl)
list_refuses c before (Flash report) h says = (h, says, refl)
list_refuses c before Empty h says = (h, says, refl)
list_refuses c before Damaged h says = (h, says, refl)

-- the files of a table, in its order
files_of : (E : Entries) (nodes : List Node) → Rising nodes → ((file : ℕ) (e : Entry) → (Among nodes file e → E file e) × (E file e → Among nodes file e)) → FilesOf E (map file_of nodes)
files_of E nodes rising same =
    record {
      rising = λ i j lt h. (let low : j < length nodes = omega (arith, length-map nodes file_of) in
          omega (arith, rising i j nothing lt low, get_or-map file_of nodes i nothing 0 (omega arith), get_or-map file_of nodes j nothing 0 low));
      each = λ i h. (let low : i < length nodes = omega (arith, length-map nodes file_of) in
          ((get_or nodes i nothing).entry, rw (get_or-map file_of nodes i nothing 0 low) ((same _ _).0 (entry_at nodes i low))));
      all = λ file e x. (let (i, h, is) = (same file e).1 x in
          (i, omega (arith, length-map nodes file_of), get_or-map file_of nodes i nothing 0 h ∙ ap file_of (is nothing)));
    }

module _ (c : Chip) (s : Scan) (found : Scanned c s) where
  pub tree_rooted : Rooted (Among (nodes_of s.tree))
  tree_rooted = rooted_same (EntryShown (Counts (LogOf c) (floor_of found.top))) (Among (nodes_of s.tree)) (λ f e. (found.entries f e).1) (λ f e. (found.entries f e).0) found.rooted

  pub tree_short : Short (Among (nodes_of s.tree))
  tree_short file e x = entry_short c (floor_of found.top) file e ((found.entries file e).0 x)

  pub listing_of : (text : List ℕ) → Lists s.tree text → ListingOf c text
  listing_of text lists =
      record {
        top = found.top;
        is_top = found.is_top;
        files = map file_of (nodes_of s.tree);
        files_of = files_of (EntryShown (Counts (LogOf c) (floor_of found.top))) (nodes_of s.tree) s.tree.nodes.rising found.entries;
        lines = lines_same (Among (nodes_of s.tree)) (EntryShown (Counts (LogOf c) (floor_of found.top))) (λ f e. (found.entries f e).0) (map file_of (nodes_of s.tree)) text lists;
      }
