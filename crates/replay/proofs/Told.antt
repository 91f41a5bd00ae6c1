-- The slots collected from the remembered pages are the keys told.
use Rattle.std.proofs.Common.{◌≡◌, ℕ, ◌<◌, Bool, List, length, get_or, sym, refl, ap, ◌∙◌, subst}
use Rattle.flash.specs.Chip.{Chip}
use Rattle.object.specs.declared.key.Key.{Key}
use Rattle.object.specs.declared.value.Object.{Object}
use Rattle.object.specs.declared.value.Object.TheVariants as object
use Rattle.page.specs.declared.fields.Entry.{Entry}
use Rattle.tree.specs.Tree.{Entries}
use Rattle.replay.specs.declared.seen.Seen.{Seen}
use Rattle.object.specs.declared.slot.Slot.{Slot}
use Rattle.replay.specs.Entries.{EntryShown}
use Rattle.replay.specs.Log.{LogOf, Logged, entry_key, Counts, Shown}
use Rattle.replay.specs.Marks.{Marks}
use Rattle.replay.specs.Remembers.{Remembers}
use Rattle.replay.specs.Shows.{ShowsAt}
use Rattle.replay.specs.Slots.{slot_at, Lives, Collects}
use Rattle.replay.specs.Telling.{Telling, slot_of, AnyKey, EntryKey, KeysTold}
use Rattle.replay.proofs.Nothing.{nothing}
use Rattle.replay.proofs.Tied.{at, page_at, chip_newest, entry_by, newest_shown, remembered_distinct, shows_to, shows_from}

module _ (c : Chip) (xs : List Seen) (r : Remembers c (length c.pages) xs) (flags : List Bool) (m : Marks xs flags) (f : ℕ) where
  -- some page shows the entry of a file exactly where the log shows it
  pub lives_to : (k : Key) → Lives xs flags f k → (e : Object) × Shown (Counts (LogOf c) f) (entry_key k.file) e
  lives_to k (j, h, s) =
      let (p, is) = page_at c xs r j h in
      let (n, g) = shows_to c xs r flags m f j p (entry_key k.file) is s in
      (g.0, newest_shown c f (entry_key k.file) g.0 p (remembered_distinct c xs r) n g.1)

  pub lives_from : (k : Key) (e : Object) → Shown (Counts (LogOf c) f) (entry_key k.file) e → Lives xs flags f k
  lives_from k e s =
      let (p, n, g) = chip_newest c f (entry_key k.file) e (remembered_distinct c xs r) s in
      let (i, is) = at c xs r p n.counted.here in
      (i, is.low, shows_from c xs r flags m f i p (entry_key k.file) e is n g)

  -- the keys of one kind of the files that live, collected, are the keys of that kind that are told
  pub collected_told : (Wanted Kind : Key → Type 0) (slots : List (Slot ℕ)) → ((j : ℕ) (k : Key) → j < length xs → ShowsAt xs flags f j k → Wanted k → Kind k × Lives xs flags f k)
      → ((k : Key) → Kind k → Lives xs flags f k → Wanted k) → Collects xs flags f (length xs) Wanted slots → KeysTold (Counts (LogOf c) f) Kind slots
  collected_told Wanted Kind slots to from collects = record { rising = collects.rising; each = each; all = all }
    where
      each : (i : ℕ) (d : Slot ℕ) → i < length slots → (k : Key) × (v : Object) × (p : Logged) × Telling (Counts (LogOf c) f) k v p × Kind k × (get_or slots i d ≡ slot_of k p)
      each i d h =
          let (j, k, lt, s, w, is) = collects.each i d h in
          let (p, here) = page_at c xs r j lt in
          let (n, g) = shows_to c xs r flags m f j p k here s in
          let (kind, lives) = to j k lt s w in
          let (e, alive) = lives_to k lives in
          (k, g.0, p, record { newest = n; gives = g.1; entry = e; alive = alive }, kind, is nothing ∙ ap (slot_at k) (here.is nothing))

      all : (k : Key) (v : Object) (p : Logged) → Telling (Counts (LogOf c) f) k v p → Kind k → (i : ℕ) × (i < length slots) × ((d : Slot ℕ) → get_or slots i d ≡ slot_of k p)
      all k v p t kind =
          let (j, here) = at c xs r p t.newest.counted.here in
          let (i, lt, is) = collects.all j k here.low (shows_from c xs r flags m f j p k v here t.newest t.gives) (from k kind (lives_from k t.entry t.alive)) in
          (i, lt, λ d. is d nothing ∙ ap (slot_at k) (here.is nothing))

  -- an entry's key is that of its file
  entry_itself : (k : Key) → k.part ≡ 0 → entry_key k.file ≡ k
  entry_itself k e = ap (λ (n : ℕ). record { file = k.file; part = n }) (sym e)

  pub entries_told : (slots : List (Slot ℕ)) → Collects xs flags f (length xs) EntryKey slots → KeysTold (Counts (LogOf c) f) EntryKey slots
  entries_told slots =
      collected_told EntryKey EntryKey slots (λ j k h s w. (w, (j, h, subst (ShowsAt xs flags f j) (sym (entry_itself k w)) s))) (λ k kind lives. kind)

  -- the same of slots that are handed on
  pub entries_in : (found slots : List (Slot ℕ)) → slots ≡ found → Collects xs flags f (length xs) EntryKey found → KeysTold (Counts (LogOf c) f) EntryKey slots
  entries_in found slots same collects = subst (KeysTold (Counts (LogOf c) f) EntryKey) (sym same) (entries_told found collects)

  pub keys_told : (E : Entries) (slots : List (Slot ℕ)) → ((file : ℕ) (e : Entry) → (E file e → EntryShown (Counts (LogOf c) f) file e) × (EntryShown (Counts (LogOf c) f) file e → E file e))
      → Collects xs flags f (length xs) (λ k. (e : Entry) × E k.file e) slots → KeysTold (Counts (LogOf c) f) AnyKey slots
  keys_told E slots same =
      collected_told (λ k. (e : Entry) × E k.file e) AnyKey slots (λ j k h s (e, there). (tt, lives_from k (object.Entry e) ((same k.file e).0 there)))
      (λ k kind lives. (let (v, shown) = lives_to k lives in
      let (p, n, g) = chip_newest c f (entry_key k.file) v (remembered_distinct c xs r) shown in
      let (e, is, value) = entry_by p.page.header.file p.page.content (entry_key k.file) v g refl in
      (e, (same k.file e).1 (subst (Shown (Counts (LogOf c) f) (entry_key k.file)) value shown))))
