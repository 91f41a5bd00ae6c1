-- A slot with a chunk past its file's end, and a chip with one.
use Rattle.std.proofs.Common.{◌≡◌, ℕ, ◌+◌, ◌-◌, ◌*◌, ◌≤◌, List, sym, ap, subst, arith}
use Rattle.flash.specs.Chip.{Chip}
use Rattle.object.specs.declared.key.Key.{Key}
use Rattle.object.specs.declared.value.Object.TheVariants as object
use Rattle.tree.specs.declared.node.Node.{Node}
use Rattle.tree.specs.Tree.{Among}
use Rattle.object.specs.declared.slot.Slot.{Slot}
use Rattle.replay.specs.Entries.{TreeShown}
use Rattle.replay.specs.Log.{LogOf, chunk_key, Counts, Shown, Distinct}
use Rattle.replay.specs.Overrun.{Overrun, Overruns, OverrunIn}
use Rattle.replay.specs.Telling.{Telling, AnyKey, KeysTold}
use Rattle.replay.proofs.Nothing.{blank}
use Rattle.replay.proofs.Tied.{chip_newest, newest_shown}

module _ (c : Chip) (f : ℕ) (slots : List (Slot ℕ)) (told : KeysTold (Counts (LogOf c) f) AnyKey slots) (distinct : Distinct (LogOf c)) (nodes : List Node)
    (tree : TreeShown (Counts (LogOf c) f) nodes) where
  pub overrun_to : OverrunIn (Among nodes) slots → Overrun (Counts (LogOf c) f)
  overrun_to (i, h, all) =
      let (k, v, p, t, kind, is) = told.each i blank h in
      let o : Overruns (Among nodes) k = subst (λ (s : Slot ℕ). Overruns (Among nodes) s.key) is (all blank) in
      let shown : Shown (Counts (LogOf c) f) k v = newest_shown c f k v p distinct t.newest t.gives in
      let part : k.part ≡ (k.part - 1) + 1 = omega (arith, o.chunk) in
      record {
        file = k.file;
        index = k.part - 1;
        object = v;
        chunk = subst (λ (j : Key). Shown (Counts (LogOf c) f) j v) (ap (λ (n : ℕ). record { file = k.file; part = n }) part) shown;
        entry = o.entry;
        told = (tree k.file o.entry).0 o.there;
        past = o.past;
      }

  pub overrun_from : Overrun (Counts (LogOf c) f) → OverrunIn (Among nodes) slots
  overrun_from o =
      let k : Key = chunk_key o.file o.index in
      let (p, n, g) = chip_newest c f (chunk_key o.file o.index) o.object distinct o.chunk in
      let t : Telling (Counts (LogOf c) f) (chunk_key o.file o.index) o.object p = record { newest = n; gives = g; entry = object.Entry o.entry; alive = o.told } in
      let (i, h, is) = told.all (chunk_key o.file o.index) o.object p t tt in (
        i,
        h,
        λ d. subst (λ (s : Slot ℕ). Overruns (Among nodes) s.key) (sym (is d)) (record {
          entry = o.entry;
          there = (tree o.file o.entry).1 o.told;
          chunk = omega arith;
          past = (let e : (o.index + 1) - 1 ≡ o.index = omega arith in subst (λ (n : ℕ). o.entry.length ≤ n * 224) (sym e) o.past);
        }),
      )
