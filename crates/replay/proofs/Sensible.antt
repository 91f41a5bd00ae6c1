-- What is shown makes sense, or it does not: from the tables to the chip.
use Rattle.std.proofs.Common.{◌≡◌, ℕ, ◌+◌, ◌<◌, ◌≤◌, true, ltb, List, length, Some, get_or, Ok, Err, sym, ap, ◌∙◌, subst, arith}
use native.Mathlib.Decide.{dec_lt}
use Rattle.std.proofs.lemmas.Bool.{and_parts, ltb-true}
use Rattle.flash.specs.Chip.{Chip}
use Rattle.object.specs.declared.key.Key.{Key}
use Rattle.page.specs.declared.fields.Content.{Content}
use Rattle.page.specs.declared.fields.Content.TheVariants.{Note, Gone}
use Rattle.page.specs.declared.fields.Content.TheVariants as content
use Rattle.page.specs.declared.fields.Entry.{Entry}
use Rattle.page.specs.declared.fields.Header.{Header}
use Rattle.page.specs.Fits.{fits, header_fits, file_fits, content_fits}
use Rattle.page.proofs.Decodes.{decoded_ok}
use Rattle.page.proofs.Ranges.{header_ranges}
use Rattle.tree.specs.declared.node.Node.{Node}
use Rattle.tree.specs.declared.sound.TreeFault.{TreeFault}
use Rattle.tree.specs.declared.sound.TreeFault.TheVariants as fault
use Rattle.tree.specs.Sound.{Checks}
use Rattle.tree.specs.Tree.{Among, Rooted}
use Rattle.tree.proofs.Agreeing.{checks_same}
use Rattle.replay.specs.declared.seen.Says.TheVariants.{Sets}
use Rattle.replay.specs.declared.seen.Seen.{Seen}
use Rattle.object.specs.declared.slot.Slot.{Slot}
use Rattle.replay.specs.Damage.{NoTree, unreached, namesakes, many_entries, Senseless, no_tree, overrun, many_keys, key_limit, Damage, unreadable, twice, senseless}
use Rattle.replay.specs.Entries.{EntryShown, TreeShown}
use Rattle.replay.specs.Log.{Log, LogOf, Logged, floor_of, Counts, Top}
use Rattle.replay.specs.Marks.{seen_index, seen_size, Walkable}
use Rattle.replay.specs.Overrun.{Overrun}
use Rattle.replay.specs.Remembers.{Remembers}
use Rattle.replay.specs.Seen.{says_by, seen_number}
use Rattle.replay.specs.Slots.{SmallParts}
use Rattle.replay.specs.Telling.{AnyKey, EntryKey, KeysTold}
use Rattle.replay.proofs.Base.{one_top}
use Rattle.replay.proofs.Counted.{no_longer}
use Rattle.replay.proofs.Nothing.{nothing}
use Rattle.replay.proofs.Tied.{Is, at, remembered_distinct}

small_by : (h : Header) (t : Content) (k : Key) → content_fits h t ≡ true → says_by h.file t ≡ Some (Sets k) → k.part < 256
small_by h Note k fit e = let z : ◌≡◌ {A = ℕ} 0 1 = cc in absurd (omega arith)
small_by h (content.Entry n) k fit e = let z : ◌≡◌ {A = ℕ} 0 k.part = cc in omega arith
small_by h (content.Chunk n) k fit e =
    let low : n.index < 32 = ltb-true n.index 32 (and_parts (file_fits h) (ltb n.index 32) fit).1 in
    let z : n.index + 1 ≡ k.part = cc in omega arith
small_by h Gone k fit e = let z : ◌≡◌ {A = ℕ} 0 1 = cc in absurd (omega arith)

-- pages that can be read set keys with parts of at most 32
pub small_parts : (c : Chip) (m : ℕ) (xs : List Seen) → Remembers c m xs → SmallParts xs
unfolding fits
small_parts c m xs r i d k h e =
    let (p, here, low, is) = r.each i d h in
    let fit = (decoded_ok _ p.page here.1).1.fitting in
    small_by p.page.header p.page.content k (and_parts (header_fits p.page.header) (content_fits p.page.header p.page.content) fit).1 (sym (ap (λ (s : Seen). s.says) is) ∙ e)

module _ (C : Log) (nodes : List Node) (same : TreeShown C nodes) where
  up : (file : ℕ) (e : Entry) → Among nodes file e → EntryShown C file e
  up file e = (same file e).0

  down : (file : ℕ) (e : Entry) → EntryShown C file e → Among nodes file e
  down file e = (same file e).1

  -- a fault of the table is one of what is shown
  pub fault_shown : (f : TreeFault) → Checks (Among nodes) (Err f) → NoTree C
  fault_shown fault.Unreached says = unreached (checks_same (Among nodes) (EntryShown C) up down (Err fault.Unreached) says)
  fault_shown fault.Namesakes says = namesakes (checks_same (Among nodes) (EntryShown C) up down (Err fault.Namesakes) says).1

  pub all_rooted : Checks (Among nodes) (Ok tt) → Rooted (EntryShown C)
  all_rooted says = (checks_same (Among nodes) (EntryShown C) up down (Ok tt) says).0

  -- and a table with none is one of a tree
  pub tree_sound : (slots : List (Slot ℕ)) → KeysTold C EntryKey slots → length slots ≤ 60 → Checks (Among nodes) (Ok tt) → NoTree C → ⊥
  tree_sound slots told few says (unreached (file, e, there, nowhere)) =
      let (path, s) = (checks_same (Among nodes) (EntryShown C) up down (Ok tt) says).0 file e there in
      nowhere path s
  tree_sound slots told few says (namesakes n) = (checks_same (Among nodes) (EntryShown C) up down (Ok tt) says).1 n
  tree_sound slots told few says (many_entries more also many) = omega (arith, no_longer C EntryKey more slots also told)

module _ (c : Chip) (xs : List Seen) (r : Remembers c (length c.pages) xs) where
  -- each page lies within its group
  pub walkable : Walkable xs
  unfolding fits
  walkable =
      record {
        rising = r.rising;
        inside = λ i d h. (let (p, here, low, is) = r.each i d h in
            let fit = (decoded_ok _ p.page here.1).1.fitting in
            let head = (and_parts (header_fits p.page.header) (content_fits p.page.header p.page.content) fit).0 in
            omega (arith, (header_ranges p.page.header head).inside, ap seen_index is, ap seen_size is));
      }

  -- the last page is the top
  pub last_top : (i : ℕ) → i + 1 ≡ length xs → (p : Logged) → Is c xs i p → Top (LogOf c) p
  last_top i e p is =
      record {
        here = is.here;
        highest = λ q h. (let (j, there) = at c xs r q h in
            elim (dec_lt j i) [
              | yes l ↦ omega (arith, r.rising j i nothing l (omega arith), ap seen_number (is.is nothing), ap seen_number (there.is nothing))
              | no g ↦ (let one : j ≡ i = omega (arith, there.low) in omega (arith, ap seen_number (sym (there.is nothing) ∙ ap (λ (n : ℕ). get_or xs n nothing) one ∙ is.is nothing)))
            ]);
      }

  module _ (t : Logged) (top : Top (LogOf c) t) where
    pub no_damage : (NoTree (Counts (LogOf c) (floor_of t)) → ⊥) → (Overrun (Counts (LogOf c) (floor_of t)) → ⊥)
        → (slots : List (Slot ℕ)) → KeysTold (Counts (LogOf c) (floor_of t)) AnyKey slots → length slots ≤ key_limit c → Damage c → ⊥
    no_damage tree fits slots told few (unreadable (q, h, e)) = r.readable q h e
    no_damage tree fits slots told few (twice (p, q, hp, hq, same, apart)) = apart (ap (λ (x : Logged). x.place) (remembered_distinct c xs r p q hp hq same))
    no_damage tree fits slots told few (senseless u also s) =
        go (subst (λ (x : Logged). Senseless (Counts (LogOf c) (floor_of x)) (key_limit c)) (one_top (LogOf c) (remembered_distinct c xs r) u t also top) s)
      where
        go : Senseless (Counts (LogOf c) (floor_of t)) (key_limit c) → ⊥
        go (no_tree n) = tree n
        go (overrun o) = fits o
        go (many_keys more ms many) = omega (arith, no_longer (Counts (LogOf c) (floor_of t)) AnyKey more slots ms told)
