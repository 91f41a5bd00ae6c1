-- A batch on a table in lent memory: what was judged, and what it leaves.
use Rattle.std.proofs.Common.{◌≡◌, ℕ, ◌≤◌, min, false, List, map, length, take, Ok, Result, sym, refl, ap, ◌∙◌, subst, ap₂, arith}
use lib.ListN.{length-map}
use Rattle.object_store.specs.declared.change.Change.{Change}
use Rattle.object_store.specs.declared.fault.ObjectFault.{ObjectFault}
use Rattle.object_store.specs.declared.kept.Kept.{Kept}
use Rattle.object_store.specs.Fit.{Judges, verdict}
use Rattle.object_store.specs.Lent.{gap, shelf_of, TableWhole, table_verdict}
use Rattle.object_store.specs.Objects.{Objects, key_of, keys_of, after_batch}
use Rattle.object_store.specs.Shelf.{Sound}
use Rattle.object_store.proofs.Keeping.{rising_after, fit_after, sound_of}
use Rattle.object_store.proofs.Verdicts.{Passing, passing}

module _ (places : List Kept) (len : ℕ) (cs : List Change) where
  -- the part of the table that is lent is the map
  pub judged : TableWhole places len → (os : Objects) → os ≡ take len places → (limit unused : ℕ) → limit ≡ min (length places) 208 → unused ≡ gap 1 (keys_of os) → (r : Result (Unit {0}) ObjectFault)
      → Judges (map key_of os) limit unused false cs r → r ≡ table_verdict places len cs
  judged whole os is limit unused l u r says =
      let good = whole.sound in
      let few = good.few refl in
      let long = length-map (take len places) key_of in
      let verdicts : Judges (keys_of (take len places)) limit unused false cs r = subst (λ (m : Objects). Judges (keys_of m) limit unused false cs r) is says in
      verdicts (omega (arith, few, long)) good.rising good.entries (take len places) refl
      ∙ ap₂ (λ (a b : ℕ). verdict (take len places) a b false cs) l (u ∙ ap (λ (m : Objects). gap 1 (keys_of m)) is)

  module _ (whole : TableWhole places len) (ok : table_verdict places len cs ≡ Ok tt) where
    pub passed : Passing (take len places) (min (length places) 208) (gap 1 (keys_of (take len places))) cs
    passed = passing (take len places) (min (length places) 208) (gap 1 (keys_of (take len places))) false cs ok

    pub room : length (after_batch (take len places) cs) ≤ length places
    room = let few = passed.few in omega (arith, few)

    pub made_whole : (n : ℕ) (after : List Kept) → take n after ≡ after_batch (take len places) cs → n ≡ length (after_batch (take len places) cs) → length after ≡ length places → TableWhole after n
    made_whole n after is count long =
        let good = whole.sound in
        let fits = passed.fits in
        record {
          within = omega (arith, room);
          sound = subst Sound (sym (ap₂ shelf_of is long))
              (sound_of (after_batch (take len places) cs) (length places) (rising_after cs (take len places) good.rising fits.placed fits.ordered)
              (fit_after (keys_of (take len places)) (gap 1 (keys_of (take len places))) cs (take len places) fits.each good.fitted) fits.entries passed.few);
        }
