-- However the pages of a batch are placed, they leave the same number of keys.
use Rattle.std.proofs.Common.{◌≡◌, ℕ, zero, suc, ◌+◌, ◌*◌, ◌<◌, ◌≤◌, true, List, length, get_or, Some, sym, refl, ap, ◌∙◌, subst, inl, inr, arith}
use native.Mathlib.Decide.{dec_lt}
use Rattle.std.proofs.lemmas.List.{get_or_default}
use Rattle.planner.specs.Tally.{tally}
use Rattle.planner.specs.Commits.{WrittenBy}
use Rattle.planner.specs.Full.{Alike}
use Rattle.planner.specs.Order.{ranked, Rising}
use Rattle.planner.specs.Shape.{blank, head_of, used_of}
use Rattle.planner.specs.Slots.{listed, Holds}
use Rattle.planner.specs.State.{limit}
use Rattle.planner.specs.Steps.{state}
use Rattle.planner.specs.Written.{Speaks, slot_at, Written}
use Rattle.planner.specs.declared.head.Head.{Head}
use Rattle.planner.specs.declared.says.Says.{Says}
use Rattle.planner.specs.Order.{Slot}
use Rattle.planner.specs.declared.slots.Slots.{Slots}
use Rattle.planner.specs.declared.tables.Tables.{Tables}
use Rattle.planner.proofs.Tally.{tally_marks}

tally_all : (n : ℕ) → tally (λ k. true) n ≡ n
tally_all zero = refl
tally_all (suc n) = let r : tally (λ k. true) n ≡ n = tally_all n in omega (arith, r)

-- where each key of ys is one of zs, zs are as many
module _ (ys zs : List Slot) (rises : Rising ys) (found : (i : ℕ) → i < length ys → (j : ℕ) × (j < length zs) × ((get_or zs j blank).key ≡ (get_or ys i blank).key)) where
  abbrev mark : ℕ → ℕ
  mark i = elim (dec_lt i (length ys)) [ yes l ↦ (found i l).0 | no h ↦ 0 ]

  marked : (i : ℕ) → i < length ys → (mark i < length zs) × ((get_or zs (mark i) blank).key ≡ (get_or ys i blank).key)
  marked i l =
      elim (dec_lt i (length ys)) as (λ d. (elim d [ yes l ↦ (found i l).0 | no h ↦ 0 ] < length zs) × ((get_or zs (elim d [ yes l ↦ (found i l).0 | no h ↦ 0 ]) blank).key ≡ (get_or ys i blank).key)) [
        | yes m ↦ ((found i m).1, (found i m).2)
        | no h ↦ absurd (h l)
      ]

  once : (i j : ℕ) → i < length ys → j < length ys → mark i ≡ mark j → i ≡ j
  once i j l m e =
      let same : (get_or ys i blank).key ≡ (get_or ys j blank).key = sym (marked i l).1 ∙ ap (λ k. (get_or zs k blank).key) e ∙ (marked j m).1 in
      let rank : ranked (get_or ys i blank) ≡ ranked (get_or ys j blank) = ap (λ k. k.file * 256 + k.part) same in
      elim (dec_lt i j) [
        | yes lt ↦ absurd (omega (arith, rank, rises i j blank lt m))
        | no ge ↦ elim (dec_lt j i) [ yes gt ↦ absurd (omega (arith, rank, rises j i blank gt l)) | no le ↦ omega arith ]
      ]

  pub as_many : length ys ≤ length zs
  as_many =
      let h : tally (λ k. true) (length ys) ≤ length zs
      = tally_marks (λ k. true) mark (length ys) (length zs) (λ k l e. (marked k l).0) (λ j k l m d e. once j k l m) in
      omega (arith, h, tally_all (length ys))

module _ (xs xs' : List Slot) (alike : Alike xs xs') (pages : List Says) (m b u n b' u' n' : ℕ) (ys ys' : List Slot) (w : Written xs pages b u n m ys)
    (w' : Written xs' pages b' u' n' m ys') where
  -- a key told after the one batch is told after the other
  told : (y : Slot) → Holds ys y → (z : Slot) × Holds ys' z × (z.key ≡ y.key)
  told y h =
      elim (w.only y h) [
        | inl ((i, l, e), quiet) ↦
            (let z = get_or xs' i blank in
            let key : z.key ≡ y.key = alike.keys i blank l ∙ ap (λ (x : Slot). x.key) (e blank) in
            let real : i < length xs' = omega (arith, alike.long) in
            (z, w'.kept z (i, real, λ d. get_or_default xs' i d blank real) (λ j d lo hi s. quiet j d lo hi (subst (λ k. Speaks (get_or pages j d) k) key s)), key))
        | inr (j, p) ↦ (slot_at b' u' n' j y.key, w'.told (slot_at b' u' n' j y.key) j (record { real = p.real; tells = p.tells; newest = p.newest; is = refl }), refl)
      ]

  found : (i : ℕ) → i < length ys → (j : ℕ) × (j < length ys') × ((get_or ys' j blank).key ≡ (get_or ys i blank).key)
  found i l =
      let (z, (j, m, e), k) = told (get_or ys i blank) (i, l, λ d. get_or_default ys i d blank l) in
      (j, m, ap (λ (x : Slot). x.key) (e blank) ∙ k)

  pub no_more : length ys ≤ length ys'
  no_more = as_many ys ys' w.rising found

alike_back : (xs ys : List Slot) → Alike xs ys → Alike ys xs
alike_back xs ys a = record { long = sym a.long; keys = λ i d l. sym (a.keys i d (omega (arith, a.long))) }

pub alike_self : (xs : List Slot) → Alike xs xs
alike_self xs = record { long = refl; keys = λ i d l. refl }

pub same_count : (xs xs' : List Slot) → Alike xs xs' → (pages : List Says) (m b u n b' u' n' : ℕ) (ys ys' : List Slot) → Written xs pages b u n m ys → Written xs' pages b' u' n' m ys'
    → length ys ≡ length ys'
same_count xs xs' a pages m b u n b' u' n' ys ys' w w' =
    omega (arith, no_more xs xs' a pages m b u n b' u' n' ys ys' w w', no_more xs' xs (alike_back xs xs' a) pages m b' u' n' b u n ys' ys w' w)

-- wherever the pages of a batch are written, they leave as many keys
module _ (t : Tables) (pages : List Says) (block index number : ℕ) (after : Slots) (written : Written (listed t.slots) pages block index number (length pages) (listed after)) where
  pub count_after : (ys : List Slot) → WrittenBy t pages ys → length ys ≡ length (listed after)
  count_after ys w =
      same_count (listed t.slots) (listed t.slots) (alike_self (listed t.slots)) pages (length pages) (state t).head (state t).used (t.last + 1) block index number ys (listed after) w written

  pub within : length (listed after) ≤ limit t.per t.blocks → (ys : List Slot) → WrittenBy t pages ys → length ys ≤ limit t.per t.blocks
  within l ys w = omega (arith, l, count_after ys w)

  pub beyond : limit t.per t.blocks < length (listed after) → (ys : List Slot) → WrittenBy t pages ys → limit t.per t.blocks < length ys
  beyond l ys w = omega (arith, l, count_after ys w)

-- the slots after the pages at a head that is there
pub written_by : (t : Tables) (pages : List Says) (h : Head) (after : Slots) → t.head ≡ Some h → Written (listed t.slots) pages h.block h.used (t.last + 1) (length pages) (listed after)
    → WrittenBy t pages (listed after)
written_by t pages h after is w =
    subst (λ o. Written (listed t.slots) pages (head_of t.blocks o) (used_of t.per o) (t.last + 1) (length pages) (listed after)) (sym is) w
