-- Entries read from the places of slots, one slot further, and what they are of what is shown.
use Rattle.std.proofs.Common.{◌≡◌, ℕ, ◌+◌, ◌<◌, ◌≤◌, List, length, get_or, Some, Ok, Err, Result, sym, ap, ◌∙◌, subst, arith}
use native.Mathlib.Decide.{dec_lt}
use Rattle.std.specs.List.{insert}
use Rattle.std.proofs.lemmas.List.{get_or_default}
use Rattle.flash.specs.Chip.{Chip, page}
use Rattle.lookup.specs.declared.sorted.Unplaced.{Unplaced}
use Rattle.lookup.specs.declared.sorted.Unplaced.TheVariants.{Taken, Full}
use Rattle.lookup.proofs.Insertion.{At, before, itself, later, which, stays, stands, long}
use Rattle.page.specs.declared.fields.Content.TheVariants as content
use Rattle.page.specs.declared.fields.Entry.{Entry}
use Rattle.page.specs.declared.fields.Page.{Page}
use Rattle.page.specs.declared.fields.PageFault.{PageFault}
use Rattle.page.specs.Decoded.{decoded}
use Rattle.tree.specs.declared.node.Node.{Node}
use Rattle.tree.specs.Table.{Adds}
use Rattle.tree.specs.Tree.{Among}
use Rattle.object.specs.declared.slot.Slot.{Slot}
use Rattle.replay.specs.Entries.{entry_of, entry_read, EntryPage, EntriesAt, RisingFiles}

page_same : (a b : Page) → ◌≡◌ {A = Result Page PageFault} (Ok a) (Ok b) → a ≡ b
page_same a b e = cc

entry_same : (a b : Entry) → content.Entry a ≡ content.Entry b → a ≡ b
entry_same a b e = cc

-- a place holds one entry
pub one_entry_page : (c : Chip) (place : ℕ) (a b : Entry) → EntryPage c place a → EntryPage c place b → a ≡ b
one_entry_page c place a b p q =
    let same : p.says ≡ q.says = page_same p.says q.says (sym p.reads ∙ q.reads) in
    entry_same a b (sym p.entry ∙ ap (λ (x : Page). x.content) same ∙ q.entry)

-- what is read at such a place
pub entry_page_reads : (c : Chip) (place : ℕ) (e : Entry) (bytes : List ℕ) → bytes ≡ page c place → EntryPage c place e → entry_read (decoded bytes) ≡ Some e
entry_page_reads c place e bytes same p = ap entry_read (ap decoded same ∙ p.reads) ∙ ap entry_of p.entry

node_file : (x y : Node) → x ≡ y → x.file ≡ y.file
node_file x y e = ap (λ (n : Node). n.file) e

module _ (c : Chip) (slots : List (Slot ℕ)) (i : ℕ) (lt : i < length slots) (few : length slots ≤ 60) (rising : RisingFiles slots) (slot : Slot ℕ) (is : (d : Slot ℕ) → get_or slots i d ≡ slot)
    (e : Entry) (read : EntryPage c slot.place e) (old : List Node) (so_far : EntriesAt c slots i old) where
  abbrev new : Node
  new = record { file = slot.key.file; entry = e }

  pub entries_more : (r : Result (Unit {0}) Unplaced) (after : List Node) → Adds old (record { file = slot.key.file; entry = e }) r after → EntriesAt c slots (i + 1) after
  entries_more (Err Full) after a = absurd (omega (arith, a.0, so_far.count))
  entries_more (Err Taken) after (room, same, (at, low, taken)) =
      let d : Node = new in
      let (j, h, both) = so_far.each (get_or old at d).file (get_or old at d).entry (at, low, λ o. get_or_default old at o d low) in
      absurd (omega (arith, rising j i slot h lt, (both slot).0, taken d, ap (λ (s : Slot ℕ). s.key.file) (is slot)))
  entries_more (Ok u) after (room, p) =
      subst (EntriesAt c slots (i + 1)) (sym p.is) (record {
        count = long old new p.at p.within ∙ ap (λ (n : ℕ). n + 1) so_far.count;
        each = λ file x (n, h, node). known file x n h node (which old new p.at p.within n (node_of file x) h);
        all = all;
      })
    where
      node_of : ℕ → Entry → Node
      node_of file x = record { file = file; entry = x }

      from_old : (file : ℕ) (x : Entry) → Among old file x → (j : ℕ) × (j < i + 1) × ((d : Slot ℕ) → ((get_or slots j d).key.file ≡ file) × EntryPage c (get_or slots j d).place x)
      from_old file x m = let (j, h, both) = so_far.each file x m in (j, omega arith, both)

      known : (file : ℕ) (x : Entry) (n : ℕ) → n < length (insert old p.at new) → ((d : Node) → get_or (insert old p.at new) n d ≡ node_of file x) → At old new p.at p.within n (node_of file x)
          → (j : ℕ) × (j < i + 1) × ((d : Slot ℕ) → ((get_or slots j d).key.file ≡ file) × EntryPage c (get_or slots j d).place x)
      known file x n h node (before l a) = from_old file x (n, omega (arith, p.within), λ d. get_or_default old n d (node_of file x) (omega (arith, p.within)) ∙ sym a ∙ node (node_of file x))
      known file x n h node (later k m g u a) = from_old file x (k, u, λ d. get_or_default old k d (node_of file x) u ∙ sym a ∙ node (node_of file x))
      known file x n h node (itself l a) =
          let same : new ≡ node_of file x = sym a ∙ node (node_of file x) in (
            i,
            omega arith,
            λ d. (
              ap (λ (s : Slot ℕ). s.key.file) (is d) ∙ node_file new (node_of file x) same,
              subst (λ (s : Slot ℕ). EntryPage c s.place x) (sym (is d)) (subst (EntryPage c slot.place) (ap (λ (y : Node). y.entry) same) read),
            ),
          )

      all : (j : ℕ) (d : Slot ℕ) (x : Entry) → j < i + 1 → EntryPage c (get_or slots j d).place x → Among (insert old p.at new) (get_or slots j d).key.file x
      all j d x h q =
          elim (dec_lt j i) [
            | yes l ↦ (let (n, u, node) = so_far.all j d x l q in stays old new p.at p.within (λ y. y ≡ node_of (get_or slots j d).key.file x) n u node)
            | no g ↦ (let one : j ≡ i = omega arith in
                let here : get_or slots j d ≡ slot = ap (λ (n : ℕ). get_or slots n d) one ∙ is d in
                let same : e ≡ x = one_entry_page c slot.place e x read (subst (λ (s : Slot ℕ). EntryPage c s.place x) here q) in
                let node : new ≡ node_of (get_or slots j d).key.file x = ap (λ (y : Entry). node_of slot.key.file y) same ∙ ap (λ (s : Slot ℕ). node_of s.key.file x) (sym here) in
                (p.at, (stands old new p.at p.within).0, λ o. (stands old new p.at p.within).1 o ∙ node))
          ]
