-- From the tables of a scan to what it answers.
use Rattle.std.proofs.Common.{◌≡◌, ℕ, ◌-◌, ◌*◌, ◌/◌, ◌<◌, ◌≤◌, Bool, true, List, length, get_or, Ok, Err, Result, sym, refl, ap, ◌∙◌, subst, mul_comm, arith}
use Rattle.std.proofs.lemmas.Nat.{div_below}
use Rattle.flash.specs.Chip.{Chip, Formed, page}
use Rattle.page.specs.declared.fields.Entry.{Entry}
use Rattle.page.specs.declared.fields.Page.{Page}
use Rattle.page.specs.declared.fields.PageFault.{PageFault}
use Rattle.page.specs.declared.fields.PageFault.TheVariants.{NotData, OutOfRange}
use Rattle.page.specs.Decoded.{decoded}
use Rattle.page.proofs.Decodes.{data_read}
use Rattle.tree.specs.declared.node.Node.{Node}
use Rattle.tree.specs.Table.{nodes_of}
use Rattle.tree.specs.Tree.{Among, Rooted}
use Rattle.replay.specs.declared.seen.Seen.{Seen}
use Rattle.replay.specs.declared.fault.ReplayFault.{ReplayFault}
use Rattle.replay.specs.declared.fault.ReplayFault.TheVariants.{WorkPage, Buffer, Blocks, Flash, Empty, Damaged}
use Rattle.object.specs.declared.slot.Slot.{Slot}
use Rattle.replay.specs.declared.tables.Scan.{Scan}
use Rattle.replay.specs.Laws.{DataAt}
use Rattle.replay.specs.Damage.{NoTree, Senseless, overrun, many_keys, key_limit, Damage, senseless, FewBlocks, slots_of, tops_of, Scanned, ScansSeen, Scans}
use Rattle.replay.specs.Entries.{EntryShown, TreeShown}
use Rattle.replay.specs.Log.{LogOf, Logged, number_of, floor_of, Counts, Top}
use Rattle.replay.specs.Marks.{Marks}
use Rattle.replay.specs.Overrun.{Overrun, OverrunIn}
use Rattle.replay.specs.Remembers.{Remembers}
use Rattle.replay.specs.Seen.{seen_number}
use Rattle.replay.specs.Slots.{Collects}
use Rattle.replay.specs.Telling.{AnyKey, KeysTold}
use Rattle.replay.specs.Tops.{BlockTop}
use Rattle.replay.proofs.Nothing.{nothing}
use Rattle.replay.proofs.Overrunning.{overrun_to, overrun_from}
use Rattle.replay.proofs.Sensible.{last_top, no_damage}
use Rattle.replay.proofs.Tied.{page_at, remembered_distinct}
use Rattle.replay.proofs.Told.{keys_told}

-- the floor that the scan takes
abbrev pub floor_taken : List Seen → ℕ
floor_taken xs = (get_or xs (length xs - 1) nothing).header.floor

-- the last remembered page is the top page, with its floor and number
pub record Last (c : Chip) (xs : List Seen) : Type 0 where
  pub top : Logged
  pub is_top : Top (LogOf c) top
  pub floor : floor_taken xs ≡ floor_of top
  pub highest : (get_or xs (length xs - 1) nothing).header.number ≡ number_of top

module _ (c : Chip) (xs : List Seen) (r : Remembers c (length c.pages) xs) where
  -- each page lies in one of 16 blocks
  pub within_blocks : (n : ℕ) → Formed n c → 0 < n → c.blocks ≤ 16 → (i : ℕ) (d : Seen) → i < length xs → (get_or xs i d).place / n < 16
  within_blocks n formed some few i d h =
      let (p, is) = page_at c xs r i h in
      let low : (get_or xs i d).place < c.blocks * n = omega (arith, ap (λ (s : Seen). s.place) (is.is d), is.here.0, formed.paged, mul_comm n c.blocks) in
      omega (arith, div_below (get_or xs i d).place n c.blocks some low)

  module _ (some : 0 < length xs) where
    pub last_page : Last c xs
    last_page =
        let i : length xs - 1 < length xs = omega arith in
        let (t, is) = page_at c xs r (length xs - 1) i in
        record {
          top = t;
          is_top = last_top c xs r (length xs - 1) (omega arith) t is;
          floor = ap (λ (s : Seen). s.header.floor) (is.is nothing);
          highest = ap seen_number (is.is nothing);
        }

    pub damaged : Senseless (Counts (LogOf c) (floor_taken xs)) (key_limit c) → Damage c
    damaged s = senseless last_page.top last_page.is_top (subst (λ (n : ℕ). Senseless (Counts (LogOf c) n) (key_limit c)) last_page.floor s)

    -- the slots that were collected by the tree, and what is handed on of them
    module _ (flags : List Bool) (m : Marks xs flags) (nodes : List Node) (shown : TreeShown (Counts (LogOf c) (floor_taken xs)) nodes) (slots : List (Slot ℕ))
        (collects : Collects xs flags (floor_taken xs) (length xs) (λ k. (e : Entry) × Among nodes k.file e) slots) (part : List (Slot ℕ)) (same : part ≡ slots) where
      told : KeysTold (Counts (LogOf c) (floor_taken xs)) AnyKey slots
      told = keys_told c xs r flags m (floor_taken xs) (Among nodes) slots shown collects

      pub damaged_keys : key_limit c < length part → Damage c
      damaged_keys many = damaged (many_keys slots told (omega (arith, ap length same)))

      pub damaged_chunk : OverrunIn (Among nodes) part → Damage c
      damaged_chunk o = damaged (overrun (overrun_to c (floor_taken xs) slots told (remembered_distinct c xs r) nodes shown (subst (OverrunIn (Among nodes)) same o)))

      pub undamaged : (NoTree (Counts (LogOf c) (floor_taken xs)) → ⊥) → length part ≤ key_limit c → (OverrunIn (Among nodes) part → ⊥) → Damage c → ⊥
      undamaged tree few none =
          no_damage c xs r last_page.top last_page.is_top
          (λ n. tree (subst (λ (i : ℕ). NoTree (Counts (LogOf c) i)) (sym last_page.floor) n))
          (λ o. none (subst (OverrunIn (Among nodes)) (sym same)
          (overrun_from c (floor_taken xs) slots told (remembered_distinct c xs r) nodes shown (subst (λ (i : ℕ). Overrun (Counts (LogOf c) i)) (sym last_page.floor) o))))
          slots (subst (λ (i : ℕ). KeysTold (Counts (LogOf c) i) AnyKey slots) last_page.floor told) (omega (arith, ap length same))

      -- what the chip tells, at the top page
      pub scanned : Rooted (EntryShown (Counts (LogOf c) (floor_taken xs))) → (s : Scan) → s.floor ≡ floor_taken xs → s.highest ≡ (get_or xs (length xs - 1) nothing).header.number
          → slots_of s ≡ slots → nodes_of s.tree ≡ nodes → ((b : ℕ) → b < c.blocks → BlockTop c b (tops_of s b)) → Scanned c s
      scanned rooted s floor highest keys entries tops =
          record {
            top = last_page.top;
            is_top = last_page.is_top;
            floor = floor ∙ last_page.floor;
            highest = highest ∙ last_page.highest;
            keys = subst (λ (n : ℕ). KeysTold (Counts (LogOf c) n) AnyKey (slots_of s)) last_page.floor (subst (KeysTold (Counts (LogOf c) (floor_taken xs)) AnyKey) (sym keys) told);
            entries = subst (λ (n : ℕ). TreeShown (Counts (LogOf c) n) (nodes_of s.tree)) last_page.floor (subst (TreeShown (Counts (LogOf c) (floor_taken xs))) (sym entries) shown);
            rooted = subst (λ (n : ℕ). Rooted (EntryShown (Counts (LogOf c) n))) last_page.floor rooted;
            tops = tops;
          }

-- a chip of which no page is remembered has no data page
pub no_pages : (c : Chip) (xs : List Seen) → length xs ≡ 0 → Remembers c (length c.pages) xs → (q : ℕ) → DataAt c q → ⊥
no_pages c xs none r q (lt, full) = go (decoded (page c q)) refl
  where
    go : (read : Result Page PageFault) → decoded (page c q) ≡ read → ⊥
    go (Ok p) e = let (i, low, is) = r.all (record { place = q; page = p }) (lt, e) lt in omega arith
    go (Err NotData) e = data_read (page c q) full e
    go (Err OutOfRange) e = r.readable q lt e

-- what the remembered pages make of a chip with few blocks and power on
pub scans_from : (c : Chip) → FewBlocks c → c.on ≡ true → (answer : Result Scan ReplayFault) → ScansSeen c answer → Scans c answer
scans_from c few on (Ok s) says = (few, on, says.0, says.1)
scans_from c few on (Err Damaged) says = (few, on, says.1)
scans_from c few on (Err WorkPage) says = let z : ◌≡◌ {A = ℕ} 0 1 = cc in absurd (omega arith)
scans_from c few on (Err Buffer) says = let z : ◌≡◌ {A = ℕ} 0 1 = cc in absurd (omega arith)
scans_from c few on (Err Blocks) says = let z : ◌≡◌ {A = ℕ} 0 1 = cc in absurd (omega arith)
scans_from c few on (Err (Flash report)) says = let z : ◌≡◌ {A = ℕ} 0 1 = cc in absurd (omega arith)
scans_from c few on (Err Empty) says = let z : ◌≡◌ {A = ℕ} 0 1 = cc in absurd (omega arith)

-- a chip with blocks has pages
pub some_page : (c : Chip) (n : ℕ) → Formed n c → n ≡ 16 → 4 ≤ c.blocks → 0 < length c.pages
some_page c n formed sixteen some = let e : length c.pages ≡ 16 * c.blocks = subst (λ (i : ℕ). length c.pages ≡ i * c.blocks) sixteen formed.paged in omega arith
