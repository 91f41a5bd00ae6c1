-- A run of taken pages is a complete group, and a complete group is a run.
use Rattle.std.proofs.Common.{◌≡◌, ℕ, zero, suc, ◌+◌, ◌-◌, ◌<◌, ◌≤◌, Bool, true, false, List, ◌∷◌, length, get_or, sym, refl, ap, ◌∙◌, subst, inl, inr, arith}
use native.Mathlib.Decide.{dec_lt}
use Rattle.replay.specs.declared.group.Group.{Group}
use Rattle.replay.specs.declared.group.Group.TheVariants.{Idle, Part, Whole}
use Rattle.replay.specs.declared.seen.Seen.{Seen}
use Rattle.replay.specs.Gathered.{Run, Gathers}
use Rattle.replay.specs.Seen.{seen_number}
use Rattle.replay.specs.Marks.{seen_index, seen_size, Walkable, PartAt, GroupedIn, Flagged, Marks, taken}
use Rattle.replay.proofs.Gathering.{newest_run}

module _ (xs : List Seen) (d : Seen) where
  -- what a run says of the page at its place t
  record Runs (size b t top : ℕ) : Type 0 where
    indexed : seen_index (get_or xs (b + t) d) ≡ t
    sized : seen_size (get_or xs (b + t) d) ≡ size
    numbered : seen_number (get_or xs (b + t) d) + (top - t) ≡ seen_number (get_or xs (b + top) d)

  -- a run of k pages that ends at n begins at b
  run_at : (k size n b : ℕ) → n ≡ b + k → Run k size (taken n xs d) → (t : ℕ) → t < k → Runs size b t (k - 1)
  run_at zero size n b e r t lt = absurd (omega arith)
  run_at (suc k) size zero b e r t lt = absurd (omega arith)
  run_at (suc zero) size (suc n) b e r t lt =
      let at : n ≡ b + t = omega arith in
      let same : t ≡ suc zero - 1 = omega arith in
      record {
        indexed = ap (λ i. seen_index (get_or xs i d)) (sym at) ∙ r.0 ∙ (let z : 0 ≡ t = omega arith in z);
        sized = ap (λ i. seen_size (get_or xs i d)) (sym at) ∙ r.1;
        numbered = omega (arith, ap (λ i. seen_number (get_or xs (b + i) d)) same);
      }
  run_at (suc (suc k)) size (suc zero) b e r t lt = absurd (omega arith)
  run_at (suc (suc k)) size (suc (suc n)) b e r t lt =
      elim (dec_lt t (suc k)) [
        | yes l ↦ (let ih = run_at (suc k) size (suc n) b (omega arith) r.3 t l in
            let top : b + (suc k - 1) ≡ n = omega arith in
            let next : b + (suc (suc k) - 1) ≡ suc n = omega arith in
            record {
              indexed = ih.indexed;
              sized = ih.sized;
              numbered = omega (arith, ih.numbered, ap (λ i. seen_number (get_or xs i d)) top, ap (λ i. seen_number (get_or xs i d)) next, r.2);
            })
        | no g ↦ (let last : b + t ≡ suc n = omega arith in
            let same : t ≡ suc (suc k) - 1 = omega arith in
            record {
              indexed = ap (λ i. seen_index (get_or xs i d)) last ∙ r.0 ∙ (let z : suc k ≡ t = omega arith in z);
              sized = ap (λ i. seen_size (get_or xs i d)) last ∙ r.1;
              numbered = omega (arith, ap (λ i. seen_number (get_or xs (b + i) d)) same);
            })
      ]

  -- the pages of a whole group have all their group among the pages
  pub whole_grouped : (size n b j : ℕ) → n ≡ b + size → n ≤ length xs → Run size size (taken n xs d) → b ≤ j → j < n → GroupedIn xs d (get_or xs j d)
  whole_grouped size n b j e le r low high k lt =
      let at : b + (j - b) ≡ j = omega arith in
      let mine = run_at size size n b e r (j - b) (omega arith) in
      let size_j : seen_size (get_or xs j d) ≡ size = ap (λ i. seen_size (get_or xs i d)) (sym at) ∙ mine.sized in
      let its = run_at size size n b e r k (omega (arith, size_j)) in (
        b + k,
        record {
          here = omega (arith, size_j);
          numbered = omega (arith, mine.numbered, its.numbered, mine.indexed, size_j, ap (λ i. seen_number (get_or xs i d)) at, ap (λ i. seen_index (get_or xs i d)) at);
          indexed = its.indexed;
          sized = its.sized ∙ sym size_j;
        },
      )

  -- a run is no longer than what was taken
  pub run_long : (k size n : ℕ) → Run k size (taken n xs d) → k ≤ n
  run_long zero size n r = absurd r
  run_long (suc k) size zero r = absurd r
  run_long (suc zero) size (suc n) r = omega arith
  run_long (suc (suc k)) size (suc zero) r = absurd r
  run_long (suc (suc k)) size (suc (suc n)) r = omega (arith, run_long (suc k) size (suc n) r.3)

  -- a group that is a run is whole
  pub run_whole : (size n : ℕ) (g : Group) → Run size size (taken n xs d) → Gathers (taken n xs d) g → g ≡ Whole size
  run_whole size zero g r s = absurd (omega (arith, run_long size size zero r, some size zero r))
    where
      some : (k n : ℕ) → Run k k (taken n xs d) → 1 ≤ k
      some zero n r = absurd r
      some (suc k) n r = omega arith
  run_whole size (suc n) Idle r s = absurd (s size size (omega arith) r)
  run_whole size (suc n) (Part last next full) r s =
      let a = newest_run size size (get_or xs n d).header (taken n xs d) r in
      let b = newest_run next full (get_or xs n d).header (taken n xs d) s.0 in
      absurd (omega (arith, a.0, a.1, b.0, b.1, s.1))
  run_whole size (suc n) (Whole full) r s =
      let a = newest_run size size (get_or xs n d).header (taken n xs d) r in
      let b = newest_run full full (get_or xs n d).header (taken n xs d) s in
      ap Whole (let e : full ≡ size = omega (arith, a.1, b.1) in e)

  module _ (walk : Walkable xs) where
    -- one number, one place
    same_place : (i j : ℕ) → i < length xs → j < length xs → seen_number (get_or xs i d) ≡ seen_number (get_or xs j d) → i ≡ j
    same_place i j hi hj e =
        elim (dec_lt i j) [
          | yes l ↦ absurd (omega (arith, walk.rising i j d l hj))
          | no g ↦ elim (dec_lt j i) [ yes l ↦ absurd (omega (arith, walk.rising j i d l hi)) | no h ↦ omega arith ]
        ]

    -- the next number, the next place
    next_place : (i j : ℕ) → i < length xs → j < length xs → seen_number (get_or xs j d) ≡ seen_number (get_or xs i d) + 1 → j ≡ i + 1
    next_place i j hi hj e =
        elim (dec_lt i j) [
          | yes l ↦ elim (dec_lt (i + 1) j) [
            | yes m ↦ absurd (omega (arith, walk.rising i (i + 1) d (omega arith) (omega arith), walk.rising (i + 1) j d m hj))
            | no g ↦ omega arith
          ]
          | no g ↦ elim (dec_lt j i) [
            | yes l ↦ absurd (omega (arith, walk.rising j i d l hi))
            | no h ↦ (let s : i ≡ j = omega arith in absurd (omega (arith, ap (λ k. seen_number (get_or xs k d)) s)))
          ]
        ]

    module _ (s : Seen) (whole : GroupedIn xs d s) (some : 0 < seen_size s) where
      pub base : ℕ
      base = (whole 0 some).0

      -- its pages stand one after another
      placed : (k : ℕ) (lt : k < seen_size s) → (whole k lt).0 ≡ base + k
      unfolding base
      placed zero lt =
          let a = (whole 0 some).1 in
          let b = (whole zero lt).1 in
          same_place (whole zero lt).0 (whole 0 some).0 b.here a.here (omega (arith, a.numbered, b.numbered)) ∙ (let z : (whole 0 some).0 ≡ (whole 0 some).0 + 0 = omega arith in z)
      placed (suc k) lt =
          let l : k < seen_size s = omega arith in
          let ih = placed k l in
          let a = (whole k l).1 in
          let b = (whole (suc k) lt).1 in
          next_place (whole k l).0 (whole (suc k) lt).0 a.here b.here (omega (arith, a.numbered, b.numbered)) ∙ (let z : (whole k l).0 + 1 ≡ (whole 0 some).0 + suc k = omega (arith, ih) in z)

      part_at : (k : ℕ) (lt : k < seen_size s) → PartAt xs d s k (base + k)
      part_at k lt = subst (λ i. PartAt xs d s k i) (placed k lt) (whole k lt).1

      runs : (k : ℕ) → k < seen_size s → Run (suc k) (seen_size s) (taken (suc (base + k)) xs d)
      runs zero lt =
          let a = part_at zero lt in (a.indexed, a.sized)
      runs (suc k) lt =
          let l : k < seen_size s = omega arith in
          let a = part_at (suc k) lt in
          let b = part_at k l in
          let e : base + suc k ≡ suc (base + k) = omega arith in
          let n : seen_number (get_or xs (base + suc k) d) ≡ seen_number (get_or xs (base + k) d) + 1 = omega (arith, a.numbered, b.numbered) in
          subst (λ i. Run (suc (suc k)) (seen_size s) ((get_or xs (base + suc k) d).header ∷ taken i xs d)) (sym e) (a.indexed, a.sized, n, runs k l)

      -- the whole run ends at the last page of the group
      pub grouped_run : (n : ℕ) → n ≡ base + seen_size s → Run (seen_size s) (seen_size s) (taken n xs d)
      grouped_run n e =
          let k = seen_size s - 1 in
          let size : suc (seen_size s - 1) ≡ seen_size s = omega arith in
          let at : suc (base + (seen_size s - 1)) ≡ n = omega arith in
          subst (λ i. Run i (seen_size s) (taken n xs d)) size (subst (λ i. Run (suc (seen_size s - 1)) (seen_size s) (taken i xs d)) at (runs (seen_size s - 1) (omega arith)))

      pub fits_in : base + seen_size s ≤ length xs
      fits_in = let a = part_at (seen_size s - 1) (omega arith) in omega (arith, a.here)

      -- the page itself stands at its index
      pub own_place : (j : ℕ) → j < length xs → s ≡ get_or xs j d → seen_index s < seen_size s → j ≡ base + seen_index s
      own_place j h is low =
          let a = part_at (seen_index s) low in
          same_place j (base + seen_index s) h a.here (omega (arith, a.numbered, ap seen_number is))

-- the flags of the groups that ended before i are set, and only flags of complete groups are
abbrev pub Marked : List Seen → List Bool → ℕ → Type 0
Marked xs flags i = (j : ℕ) (d : Seen) → j < length xs
    → (get_or flags j false ≡ true → GroupedIn xs d (get_or xs j d))
    × (GroupedIn xs d (get_or xs j d) → j + seen_size (get_or xs j d) ≤ i + seen_index (get_or xs j d) → get_or flags j false ≡ true)

module _ (xs : List Seen) (walk : Walkable xs) (i : ℕ) (h : i < length xs) where
  -- where a group of the page j ends with the page i, it is whole
  ends_here : (j : ℕ) (d : Seen) (g : Group) → j < length xs → GroupedIn xs d (get_or xs j d) → j + seen_size (get_or xs j d) ≡ suc i + seen_index (get_or xs j d)
      → Gathers (taken (suc i) xs d) g → g ≡ Whole (seen_size (get_or xs j d))
  ends_here j d g hj whole e s =
      let low = walk.inside j d hj in
      let some : 0 < seen_size (get_or xs j d) = omega (arith, low) in
      let own = own_place xs d walk (get_or xs j d) whole some j hj refl low in
      run_whole xs d (seen_size (get_or xs j d)) (suc i) g (grouped_run xs d walk (get_or xs j d) whole some (suc i) (omega (arith, own))) s

  pub marked_on : (flags : List Bool) (g : Group) → ((size : ℕ) → g ≡ Whole size → ⊥) → ((d : Seen) → Gathers (taken (suc i) xs d) g) → Marked xs flags i → Marked xs flags (i + 1)
  marked_on flags g other s m j d hj = (
    (m j d hj).0,
    λ whole le. elim (dec_lt (i + seen_index (get_or xs j d)) (j + seen_size (get_or xs j d))) [
      | yes l ↦ absurd (other (seen_size (get_or xs j d)) (ends_here j d g hj whole (omega arith) (s d)))
      | no ge ↦ (m j d hj).1 whole (omega arith)
    ],
  )

  pub marked_whole : (flags after : List Bool) (size : ℕ) → ((d : Seen) → Gathers (taken (suc i) xs d) (Whole size)) → Flagged flags ((i + 1) - size) (i + 1) after → Marked xs flags i → Marked xs after (i + 1)
  marked_whole flags after size s f m j d hj =
      let long = run_long xs d size size (suc i) (s d) in
      elim (dec_lt j ((i + 1) - size)) [
        | yes l ↦ (let same = f.outside j (inl l) in
            (λ t. (m j d hj).0 (sym same ∙ t), λ whole le. same ∙ (m j d hj).1 whole (earlier j d hj whole le (λ own. omega (arith, own, l, long)))))
        | no ge ↦ elim (dec_lt j (i + 1)) [
          | yes l ↦ (λ _. whole_grouped xs d size (suc i) ((i + 1) - size) j (omega arith) (omega arith) (s d) (omega arith) (omega arith), λ _ _. f.inside j (omega arith) l)
          | no past ↦ (let same = f.outside j (inr (omega arith)) in
              (λ t. (m j d hj).0 (sym same ∙ t), λ whole le. same ∙ (m j d hj).1 whole (earlier j d hj whole le (λ own. omega (arith, own, past, walk.inside j d hj)))))
        ]
      ]
    where
      -- a group that ends with the page i has its pages among the flagged ones, so another one ended before
      earlier : (j : ℕ) (d : Seen) → j < length xs → GroupedIn xs d (get_or xs j d) → j + seen_size (get_or xs j d) ≤ (i + 1) + seen_index (get_or xs j d)
          → ((j + size ≡ suc i + seen_index (get_or xs j d)) → ⊥) → j + seen_size (get_or xs j d) ≤ i + seen_index (get_or xs j d)
      earlier j d hj whole le out =
          elim (dec_lt (i + seen_index (get_or xs j d)) (j + seen_size (get_or xs j d))) [
            | yes l ↦ (let e : j + seen_size (get_or xs j d) ≡ suc i + seen_index (get_or xs j d) = omega arith in
                let same : size ≡ seen_size (get_or xs j d) = whole_size size (seen_size (get_or xs j d)) (ends_here j d (Whole size) hj whole e (s d)) in
                absurd (out (omega arith)))
            | no ge ↦ omega arith
          ]
        where
          whole_size : (a b : ℕ) → Whole a ≡ Whole b → a ≡ b
          whole_size a b e = cc

pub marked_all : (xs : List Seen) (flags : List Bool) (n : ℕ) → Walkable xs → length xs ≤ n → Marked xs flags n → Marks xs flags
marked_all xs flags n walk all m j d hj = (
  (m j d hj).0,
  λ whole.
      let low = walk.inside j d hj in
      let some : 0 < seen_size (get_or xs j d) = omega (arith, low) in
      let own = own_place xs d walk (get_or xs j d) whole some j hj refl low in
      (m j d hj).1 whole (omega (arith, own, fits_in xs d walk (get_or xs j d) whole some)),
)
