-- The remembered pages, one place further.
use Rattle.std.proofs.Common.{◌≡◌, ℕ, ◌+◌, ◌<◌, ◌≤◌, true, ◌⊎◌, List, [], length, get_or, IfOk, Ok, Err, Result, sym, ap, ◌∙◌, subst, inl, inr, arith}
use native.Mathlib.Decide.{ℕ_discrete}
use Rattle.std.specs.List.{insert}
use Rattle.lookup.proofs.Insertion.{At, before, itself, later, which, stays, stands, rising_inserted, long}
use Rattle.flash.specs.Chip.{Chip, page}
use Rattle.page.specs.declared.fields.Page.{Page}
use Rattle.page.specs.declared.fields.PageFault.{PageFault}
use Rattle.page.specs.declared.fields.PageFault.TheVariants.{NotData, OutOfRange}
use Rattle.page.specs.Decoded.{decoded}
use Rattle.page.specs.Fits.{fits}
use Rattle.page.proofs.Decodes.{decoded_ok}
use Rattle.replay.specs.declared.fault.ReplayFault.{ReplayFault}
use Rattle.replay.specs.declared.fault.ReplayFault.TheVariants.{Damaged}
use Rattle.replay.specs.declared.seen.Seen.{Seen}
use Rattle.replay.specs.Log.{Logged, LogOf, number_of}
use Rattle.lookup.specs.Sorts.{InPlace}
use Rattle.replay.specs.Seen.{seen_of, seen_number}
use Rattle.replay.specs.Remembers.{Remembers, TakesIn, Twice, Unreadable}

-- nothing is remembered of no page
pub remembers_none : (c : Chip) → Remembers c 0 []
remembers_none c =
    record {
      each = λ i d h. absurd (omega arith);
      all = λ p here low. absurd (omega arith);
      rising = λ i j d lt h. absurd (omega arith);
      readable = λ q h e. omega arith;
    }

-- the page at the next place is none
pub remembers_skip : (c : Chip) (m : ℕ) (xs : List Seen) → decoded (page c m) ≡ Err NotData → Remembers c m xs → Remembers c (m + 1) xs
remembers_skip c m xs skip r =
    record {
      each = λ i d h. let (p, here, low, is) = r.each i d h in (p, here, omega arith, is);
      all = λ p here low. r.all p here (elim (ℕ_discrete p.place m) [ yes e ↦ absurd (clash p here e) | no ne ↦ below p.place low ne ]);
      rising = r.rising;
      readable = λ q h e. elim (ℕ_discrete q m) [ yes s ↦ other q s e | no ne ↦ r.readable q (below q h ne) e ];
    }
  where
    below : (a : ℕ) → a < m + 1 → (a ≡ m → ⊥) → a < m
    below a h ne = omega arith

    clash : (p : Logged) → LogOf c p → p.place ≡ m → ⊥
    clash p here e =
        let same : Err NotData ≡ Ok p.page = sym skip ∙ ap (λ q. decoded (page c q)) (sym e) ∙ here.1 in
        let z : ◌≡◌ {A = ℕ} 0 1 = cc in omega arith

    other : (q : ℕ) → q ≡ m → decoded (page c q) ≡ Err OutOfRange → ⊥
    other q s e =
        let same : ◌≡◌ {A = Result Page PageFault} (Err NotData) (Err OutOfRange) = sym skip ∙ ap (λ i. decoded (page c i)) (sym s) ∙ e in
        let z : ◌≡◌ {A = ℕ} 0 1 = cc in omega arith

module _ (c : Chip) (m : ℕ) (xs : List Seen) (pg : Page) (inside : m < length c.pages) (reads : decoded (page c m) ≡ Ok pg) (r : Remembers c m xs) where
  abbrev new : Logged
  new = record { place = m; page = pg }

  here_new : LogOf c (record { place = m; page = pg })
  here_new = (inside, reads)

  -- a page at that place is the new one
  only_new : (p : Logged) → LogOf c p → p.place ≡ m → seen_of p ≡ seen_of (record { place = m; page = pg })
  only_new p here e =
      let same : p.page ≡ pg = ok_same p.page pg (sym here.1 ∙ ap (λ q. decoded (page c q)) e ∙ reads) in
      ap (λ i. seen_of (record { place = i; page = p.page })) e ∙ ap (λ g. seen_of (record { place = m; page = g })) same
    where
      ok_same : (a b : Page) → ◌≡◌ {A = Result Page PageFault} (Ok a) (Ok b) → a ≡ b
      ok_same a b e = cc

  pub remembers_twice : (at : ℕ) → at < length xs → ((d : Seen) → seen_number (get_or xs at d) ≡ number_of (record { place = m; page = pg })) → Twice c
  remembers_twice at h same =
      let (p, here, low, is) = r.each at (seen_of new) h in
      (p, new, here, here_new, sym (ap seen_number is) ∙ same (seen_of new), λ e. omega arith)

  module _ (at : ℕ) (le : at ≤ length xs) (below : (k : ℕ) (d : Seen) → k < at → seen_number (get_or xs k d) < seen_number (seen_of (record { place = m; page = pg })))
      (above : (d : Seen) → at < length xs → seen_number (seen_of (record { place = m; page = pg })) < seen_number (get_or xs at d)) where
    pub remembers_added : Remembers c (m + 1) (insert xs at (seen_of (record { place = m; page = pg })))
    remembers_added =
        record {
          each = λ i d h. known i d (which xs (seen_of new) at le i d h);
          all = λ p here low. elim (ℕ_discrete p.place m) [
            | yes e ↦ (at, (stands xs (seen_of new) at le).0, λ d. (stands xs (seen_of new) at le).1 d ∙ sym (only_new p here e))
            | no ne ↦ (let (i, h, is) = r.all p here (under p.place low ne) in stays xs (seen_of new) at le (λ s. s ≡ seen_of p) i h is)
          ];
          rising = rising_inserted xs (seen_of new) at le seen_number r.rising below above;
          readable = λ q h e. elim (ℕ_discrete q m) [ yes s ↦ clash q s e | no ne ↦ r.readable q (under q h ne) e ];
        }
      where
        under : (a : ℕ) → a < m + 1 → (a ≡ m → ⊥) → a < m
        under a h ne = omega arith

        known : (i : ℕ) (d : Seen) → At xs (seen_of new) at le i d → (p : Logged) × LogOf c p × (p.place < m + 1) × (get_or (insert xs at (seen_of new)) i d ≡ seen_of p)
        known i d (before l a) = let (p, here, low, is) = r.each i d (omega arith) in (p, here, omega arith, a ∙ is)
        known i d (itself l a) = (new, here_new, omega arith, a)
        known i d (later k e g h a) = let (p, here, low, is) = r.each k d h in (p, here, omega arith, a ∙ is)

        clash : (q : ℕ) → q ≡ m → decoded (page c q) ≡ Err OutOfRange → ⊥
        clash q s e =
            let same : Ok pg ≡ Err OutOfRange = sym reads ∙ ap (λ i. decoded (page c i)) (sym s) ∙ e in
            let z : ◌≡◌ {A = ℕ} 0 1 = cc in omega arith

  pub remembers_more : (zs : List Seen) → InPlace seen_number xs (seen_of (record { place = m; page = pg })) zs → Remembers c (m + 1) zs
  remembers_more zs p = subst (Remembers c (m + 1)) (sym p.is) (remembers_added p.at p.within p.below p.above)

-- what was read at the next place is taken in
pub step_on : (c : Chip) (m : ℕ) (olds news : List Seen) (read : Result Page PageFault) → decoded (page c m) ≡ read → m < length c.pages → length olds ≤ m
    → Remembers c m olds → TakesIn olds m read (Ok tt) news → (length news ≤ m + 1) × Remembers c (m + 1) news
step_on c m olds news (Ok pg) is inside le r t =
    (omega (arith, ap length t.is, long olds (seen_of (record { place = m; page = pg })) t.at t.within), remembers_more c m olds pg inside is r news t)
step_on c m olds news (Err NotData) is inside le r t = (omega (arith, ap length t), subst (Remembers c (m + 1)) (sym t) (remembers_skip c m olds is r))
step_on c m olds news (Err OutOfRange) is inside le r t = absurd t

-- or the chip is damaged
pub step_stops : (c : Chip) (m : ℕ) (e : ReplayFault) (olds news : List Seen) (read : Result Page PageFault) → decoded (page c m) ≡ read → m < length c.pages
    → Remembers c m olds → TakesIn olds m read (Err e) news → (e ≡ Damaged) × (Unreadable c ⊎ Twice c)
step_stops c m e olds news (Ok pg) is inside r (stop, (at, h, same)) = (stop, inr (remembers_twice c m olds pg inside is r at h same))
step_stops c m e olds news (Err NotData) is inside r t = absurd t
step_stops c m e olds news (Err OutOfRange) is inside r t = (t, inl (m, inside, is))

-- what was read fits
pub read_fits : (bytes : List ℕ) (read : Result Page PageFault) → decoded bytes ≡ read → IfOk read (λ pg. fits pg ≡ true)
read_fits bytes (Ok pg) is = (decoded_ok bytes pg is).1.fitting
read_fits bytes (Err e) is = tt
