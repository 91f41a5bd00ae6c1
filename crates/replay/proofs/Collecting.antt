-- Slots collected from the remembered pages, one page further.
use Rattle.std.proofs.Common.{◌≡◌, ℕ, ◌+◌, ◌<◌, Bool, ◌⊎◌, List, length, get_or, Some, None, Option, MatchOption, true, false, Decides, sym, refl, ap, ◌∙◌, subst, inl, inr, arith}
use native.Mathlib.Decide.{dec_lt}
use Rattle.std.specs.List.{insert}
use Rattle.std.specs.Bool.{then_some}
use Rattle.std.proofs.lemmas.Bool.{false≢true}
use Rattle.std.proofs.lemmas.List.{get_or_default}
use Rattle.lookup.specs.Sorts.{InPlace}
use Rattle.lookup.proofs.Insertion.{At, before, itself, later, which, stays, stands, rising_inserted}
use Rattle.object.specs.declared.key.Key.{Key}
use Rattle.object.specs.Rank.{key_rank}
use Rattle.replay.specs.declared.seen.Says.{Says}
use Rattle.replay.specs.declared.seen.Says.TheVariants.{Sets}
use Rattle.replay.specs.declared.seen.Seen.{Seen}
use Rattle.object.specs.declared.slot.Slot.{Slot}
use Rattle.replay.specs.Shows.{SaidTo, Shows, ShowsAt}
use Rattle.replay.specs.Slots.{slot_at, slot_rank, SmallParts, Collects, ShowsWanted}
use Rattle.replay.proofs.Nothing.{nothing}

-- the rank tells keys apart
pub rank_apart : (k j : Key) → k.part < 256 → j.part < 256 → key_rank k ≡ key_rank j → k ≡ j
rank_apart k j a b e =
    let f : k.file ≡ j.file = omega arith in
    let p : k.part ≡ j.part = omega arith in
    ap (λ (x : ℕ). record { file = x; part = k.part }) f ∙ ap (λ (x : ℕ). record { file = j.file; part = x }) p

pub sets_same : (k j : Key) → ◌≡◌ {A = Option Says} (Some (Sets k)) (Some (Sets j)) → k ≡ j
sets_same k j e = cc

one_more : (i j : ℕ) → j < i + 1 → (j < i) ⊎ (j ≡ i)
one_more i j h = elim (dec_lt j i) [ yes l ↦ inl l | no g ↦ inr (omega arith) ]

module _ (xs : List Seen) (flags : List Bool) (f : ℕ) where
  said : (j : ℕ) (d : Seen) (k : Key) → ShowsAt xs flags f j k → SaidTo (get_or xs j d).says k
  said j d k s = subst (λ (w : Option Says). SaidTo w k) (sym (s.sets d)) refl

  -- one page shows a key
  pub shows_once : (i j : ℕ) (k : Key) → i < length xs → j < length xs → ShowsAt xs flags f i k → ShowsAt xs flags f j k → i ≡ j
  shows_once i j k hi hj a b =
      elim (dec_lt i j) [
        | yes l ↦ absurd (a.newest j nothing l hj b.counted (said j nothing k b))
        | no g ↦ elim (dec_lt j i) [
          | yes l ↦ absurd (b.newest i nothing l hi a.counted (said i nothing k a))
          | no h ↦ omega arith
        ]
      ]

  -- and a page shows one key
  pub shows_one_key : (i : ℕ) (k j : Key) → ShowsAt xs flags f i k → ShowsAt xs flags f i j → k ≡ j
  shows_one_key i k j a b = sets_same k j (sym (a.sets nothing) ∙ b.sets nothing)

  module _ (W : Key → Type 0) where
    -- what a test of the key leaves of what the page shows
    pub shows_filtered : (i : ℕ) (o r : Option Key) {R : Key → Bool → Type 0} → ((k : Key) (b : Bool) → R k b → Decides b (W k)) → Shows xs flags f i o
        → MatchOption o (r ≡ None) (λ k. (b : Bool) × R k b × (r ≡ then_some b k)) → ShowsWanted xs flags f i W r
    shows_filtered i None r tests none is = subst (ShowsWanted xs flags f i W) (sym is) (λ k s w. none k s)
    shows_filtered i (Some k) r tests s (true, t, is) = subst (ShowsWanted xs flags f i W) (sym is) (s, (tests k true t).0 refl)
    shows_filtered i (Some k) r tests s (false, t, is) = subst (ShowsWanted xs flags f i W) (sym is) (λ j a w. false≢true ((tests k false t).1 (subst W (shows_one_key i j k a s) w)))

    module _ (at : ℕ) (here : at < length xs) (slots : List (Slot ℕ)) (c : Collects xs flags f at W slots) where
      -- a page that shows no wanted key
      pub collects_skip : ((k : Key) → ShowsAt xs flags f at k → W k → ⊥) → Collects xs flags f (at + 1) W slots
      collects_skip none =
          record {
            rising = c.rising;
            each = λ i d h. let (j, k, lt, s, w, is) = c.each i d h in (j, k, omega arith, s, w, is);
            all = λ j k h s w. elim (one_more at j h) [ inl l ↦ c.all j k l s w | inr e ↦ absurd (none k (subst (λ (n : ℕ). ShowsAt xs flags f n k) e s) w) ];
          }

      module _ (small : SmallParts xs) (key : Key) (shown : ShowsAt xs flags f at key) where
        -- no slot has the rank of a key that a new page shows
        pub collects_fresh : (i : ℕ) (d : Slot ℕ) → i < length slots → slot_rank (get_or slots i d) ≡ key_rank key → ⊥
        collects_fresh i d h e =
            let (j, k, lt, s, w, is) = c.each i d h in
            let low : j < length xs = omega arith in
            let same : k ≡ key = rank_apart k key (small j nothing k low (s.sets nothing)) (small at nothing key here (shown.sets nothing)) (sym (ap slot_rank (is nothing)) ∙ e) in
            omega (arith, shows_once j at key low here (subst (ShowsAt xs flags f j) same s) shown)

        -- one key more
        pub collects_more : W key → (after : List (Slot ℕ)) (e : Seen) → InPlace slot_rank slots (slot_at key (get_or xs at e)) after → Collects xs flags f (at + 1) W after
        collects_more wanted after e p =
            subst (Collects xs flags f (at + 1) W) (sym p.is) (record {
              rising = rising_inserted slots slot p.at p.within slot_rank c.rising p.below p.above;
              each = λ i d h. known i d (which slots slot p.at p.within i d h);
              all = λ j k h s w. elim (one_more at j h) [
                | inl l ↦ (let (i, lt, is) = c.all j k l s w in
                    let (n, m, st) = stays slots slot p.at p.within (λ x. x ≡ slot_at k (get_or xs j nothing)) i lt (λ d. is d nothing) in
                    (n, m, λ d o. st d ∙ ap (slot_at k) (get_or_default xs j nothing o (omega arith))))
                | inr one ↦ (p.at, (stands slots slot p.at p.within).0, λ d o. (stands slots slot p.at p.within).1 d ∙ placed j k o one (subst (λ (n : ℕ). ShowsAt xs flags f n k) one s))
              ];
            })
          where
            slot : Slot ℕ
            slot = slot_at key (get_or xs at e)

            placed : (j : ℕ) (k : Key) (o : Seen) → j ≡ at → ShowsAt xs flags f at k → slot ≡ slot_at k (get_or xs j o)
            placed j k o one s =
                let same : key ≡ k = shows_one_key at key k shown s in
                ap (slot_at key) (get_or_default xs at e o here) ∙ ap (λ (x : Key). slot_at x (get_or xs at o)) same ∙ ap (λ (n : ℕ). slot_at k (get_or xs n o)) (sym one)

            known : (i : ℕ) (d : Slot ℕ) → At slots slot p.at p.within i d
                → (j : ℕ) × (k : Key) × (j < at + 1) × ShowsAt xs flags f j k × W k × ((o : Seen) → get_or (insert slots p.at slot) i d ≡ slot_at k (get_or xs j o))
            known i d (before l a) = let (j, k, lt, s, w, is) = c.each i d (omega (arith, p.within)) in (j, k, omega arith, s, w, λ o. a ∙ is o)
            known i d (itself l a) = (at, key, omega arith, shown, wanted, λ o. a ∙ ap (slot_at key) (get_or_default xs at e o here))
            known i d (later n m g h a) = let (j, k, lt, s, w, is) = c.each n d h in (j, k, omega arith, s, w, λ o. a ∙ is o)
