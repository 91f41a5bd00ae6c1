-- The entries read from the places of the entries' slots are those shown.
use Rattle.std.proofs.Common.{◌≡◌, ℕ, ◌<◌, List, length, get_or, Ok, Result, sym, refl, ap, ◌∙◌, subst, arith}
use Rattle.flash.specs.Chip.{Chip}
use Rattle.object.specs.declared.key.Key.{Key}
use Rattle.object.specs.declared.value.Object.{Object}
use Rattle.object.specs.declared.value.Object.TheVariants as object
use Rattle.page.specs.declared.fields.Content.TheVariants as content
use Rattle.page.specs.declared.fields.Entry.{Entry}
use Rattle.page.specs.declared.fields.Page.{Page}
use Rattle.page.specs.declared.fields.PageFault.{PageFault}
use Rattle.tree.specs.declared.node.Node.{Node}
use Rattle.tree.specs.Tree.{Among}
use Rattle.object.specs.declared.slot.Slot.{Slot}
use Rattle.replay.specs.Entries.{EntryShown, TreeShown, EntryPage, EntryPlace, RisingFiles, EntriesAt}
use Rattle.replay.specs.Log.{LogOf, Logged, entry_key, Counts, Shown, Distinct}
use Rattle.replay.specs.Telling.{Telling, EntryKey, KeysTold}
use Rattle.replay.proofs.Nothing.{blank}
use Rattle.replay.proofs.Tied.{chip_newest, entry_by, newest_shown}

entry_same : (a b : Entry) → object.Entry a ≡ object.Entry b → a ≡ b
entry_same a b e = cc

content_same : (a b : Entry) → content.Entry a ≡ content.Entry b → a ≡ b
content_same a b e = cc

page_same : (a b : Page) → ◌≡◌ {A = Result Page PageFault} (Ok a) (Ok b) → a ≡ b
page_same a b e = cc

module _ (c : Chip) (f : ℕ) (slots : List (Slot ℕ)) (told : KeysTold (Counts (LogOf c) f) EntryKey slots) where
  page_of : (p : Logged) (k : Key) (v : Object) → Telling (Counts (LogOf c) f) k v p → k.part ≡ 0 → (e : Entry) × EntryPage c p.place e × (v ≡ object.Entry e)
  page_of p k v t z =
      let (e, is, value) = entry_by p.page.header.file p.page.content k v t.gives z in
      let here = t.newest.counted.here in
      (e, record { says = p.page; within = here.0; reads = here.1; entry = is }, value)

  pub entry_places : (i : ℕ) (d : Slot ℕ) → i < length slots → EntryPlace c (get_or slots i d).place
  entry_places i d h =
      let (k, v, p, t, z, is) = told.each i d h in
      let (e, at, value) = page_of p k v t z in
      (e, subst (λ (s : Slot ℕ). EntryPage c s.place e) (sym is) at)

  pub entry_files : RisingFiles slots
  entry_files i j d lt h =
      let (k, v, p, t, z, is) = told.each i d (omega arith) in
      let (l, w, q, u, y, also) = told.each j d h in
      omega (arith, told.rising i j d lt h, z, y, ap (λ (s : Slot ℕ). s.key.part) is, ap (λ (s : Slot ℕ). s.key.part) also, ap (λ (s : Slot ℕ). s.key.file) is, ap (λ (s : Slot ℕ). s.key.file) also)

  module _ (distinct : Distinct (LogOf c)) (nodes : List Node) (read : EntriesAt c slots (length slots) nodes) where
    shown : (file : ℕ) (e : Entry) → Among nodes file e → EntryShown (Counts (LogOf c) f) file e
    shown file e m =
        let (i, h, both) = read.each file e m in
        let (k, v, p, t, z, is) = told.each i blank h in
        let (x, at, value) = page_of p k v t z in
        let there : EntryPage c p.place e = subst (λ (s : Slot ℕ). EntryPage c s.place e) is (both blank).1 in
        let same : x ≡ e = content_same x e (sym at.entry ∙ ap (λ (g : Page). g.content) (page_same at.says there.says (sym at.reads ∙ there.reads)) ∙ there.entry) in
        let key : k ≡ entry_key file = ap (λ (n : ℕ). record { file = k.file; part = n }) z ∙ ap entry_key (sym (ap (λ (s : Slot ℕ). s.key.file) is) ∙ (both blank).0) in
        subst (λ (j : Key). Shown (Counts (LogOf c) f) j (object.Entry e)) key
        (subst (Shown (Counts (LogOf c) f) k) (value ∙ ap object.Entry same) (newest_shown c f k v p distinct t.newest t.gives))

    among : (file : ℕ) (e : Entry) → EntryShown (Counts (LogOf c) f) file e → Among nodes file e
    among file e s =
        let (p, n, g) = chip_newest c f (entry_key file) (object.Entry e) distinct s in
        let t : Telling (Counts (LogOf c) f) (entry_key file) (object.Entry e) p = record { newest = n; gives = g; entry = object.Entry e; alive = s } in
        let (i, h, is) = told.all (entry_key file) (object.Entry e) p t refl in
        let (x, at, value) = page_of p (entry_key file) (object.Entry e) t refl in
        let there : EntryPage c (get_or slots i blank).place e =
        subst (EntryPage c (get_or slots i blank).place) (sym (entry_same e x value)) (subst (λ (s : Slot ℕ). EntryPage c s.place x) (sym (is blank)) at) in
        subst (λ (n : ℕ). Among nodes n e) (ap (λ (s : Slot ℕ). s.key.file) (is blank)) (read.all i blank e h there)

    pub tree_shown : TreeShown (Counts (LogOf c) f) nodes
    tree_shown file e = (shown file e, among file e)
