-- A table on the way from one map to the next.
use Rattle.std.proofs.Common.{◌≡◌, ℕ, ◌+◌, ◌<◌, ◌≤◌, true, List, length, get_or, take, sym, ap, ◌∙◌, subst, arith}
use Rattle.std.proofs.lemmas.List.{take_all}
use Rattle.object_store.specs.declared.change.Change.{Change}
use Rattle.object_store.specs.declared.kept.Kept.{Kept}
use Rattle.object_store.specs.Changes.{in_order}
use Rattle.object_store.specs.Edits.{Spares}
use Rattle.object_store.specs.Objects.{Objects, key_of, keys_of, after_batch}
use Rattle.object_store.specs.Settled.{Placeable, HoldsNow, settle, settled}
use Rattle.object_store.specs.Tables.{Rising}
use Rattle.object_store.proofs.Settling.{rising_spared, removals_first}
use Rattle.object_store.proofs.Steps.{settled_more, part_fits_in}

module _ (cs : List Change) (first : List Kept) (len : ℕ) (rising : Rising (keys_of (take len first))) (order : in_order cs ≡ true) (placed : Placeable cs)
    (room : length (after_batch (take len first) cs) ≤ length first) (n : ℕ) (table : List Kept) (left : Spares key_of first len cs n table) where
  whole : settled cs (take n table) cs ≡ after_batch (take len first) cs
  whole = ap (λ (m : Objects). settled cs m cs) left.left ∙ sym (removals_first cs (take len first) rising placed order)

  rises : Rising (keys_of (take n table))
  rises = subst (λ (m : Objects). Rising (keys_of m)) (sym left.left) (rising_spared cs (take len first) rising)

  -- there is room at every moment
  pub roomy : (i : ℕ) → length (settled cs (take n table) (take i cs)) ≤ length table
  roomy i =
      let part = part_fits_in cs (take n table) cs i placed rises in
      let all = ap length whole in
      omega (arith, part, all, room, left.long)

  -- the table holds what is settled so far
  abbrev pub Way : ℕ → ℕ → List Kept → Type 0
  Way i held now =
      (length now ≡ length table) × (take held now ≡ settled cs (take n table) (take i cs)) × (held ≡ length (settled cs (take n table) (take i cs)))

  pub way_on : (i held : ℕ) (now : List Kept) (d : Change) → i < length cs → Way i held now → (m : ℕ) (next : List Kept) → HoldsNow now (settle cs (take held now) (get_or cs i d)) m next → Way (i + 1) m next
  way_on i held now d h way m next step =
      let is = ap (λ (os : Objects). settle cs os (get_or cs i d)) way.1 ∙ sym (settled_more cs (take n table) cs i d h) in
      let r = roomy (i + 1) in
      let fits : length (settle cs (take held now) (get_or cs i d)) ≤ length now = omega (arith, r, ap length is, way.0) in
      (step.long ∙ way.0, step.is fits ∙ is, step.count fits ∙ ap length is)

  pub way_done : (i held : ℕ) (now : List Kept) → length cs ≤ i → Way i held now → (take held now ≡ after_batch (take len first) cs) × (held ≡ length (after_batch (take len first) cs))
  way_done i held now h way =
      let all = ap (λ (ds : List Change). settled cs (take n table) ds) (take_all i cs h) ∙ whole in
      (way.1 ∙ all, way.2 ∙ ap length all)
