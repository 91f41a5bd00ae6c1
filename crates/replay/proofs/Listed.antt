-- The data pages of a chip as a list: what is said of lists holds of chips.
use Rattle.std.proofs.Common.{◌≡◌, ℕ, zero, suc, ◌<◌, ◌⊎◌, List, [], ◌∷◌, length, Ok, Err, Result, sym, refl, ap, subst, inl, inr, arith}
use mathlib.Core.List.Memᴰ
use native.Mathlib.Decide.{ℕ_discrete}
use Rattle.flash.specs.Chip.{Chip, page}
use Rattle.page.specs.declared.fields.Page.{Page}
use Rattle.page.specs.declared.fields.PageFault.{PageFault}
use Rattle.page.specs.Decoded.{decoded}
use Rattle.replay.specs.Log.{LogOf, Logged, Top}
use Rattle.replay.specs.Changes.{On}
use Rattle.replay.proofs.Highest.{top_in}

-- the page of this place, if it is data, before the others
joined : ℕ → Result Page PageFault → List Logged → List Logged
joined n (Ok p) xs = record { place = n; page = p } ∷ xs
joined n (Err f) xs = xs

-- the data pages of the first n places
below : Chip → ℕ → List Logged
below c zero = []
below c (suc n) = joined n (decoded (page c n)) (below c n)

joined_new : (n : ℕ) (r : Result Page PageFault) (xs : List Logged) (p : Logged) → p.place ≡ n → r ≡ Ok p.page → On (joined n r xs) p
unfolding joined
joined_new n r xs p at e =
    subst (λ (s : Result Page PageFault). On (joined n s xs) p) (sym e)
    (subst (λ (m : ℕ). On (joined m (Ok p.page) xs) p) at (Memᴰ.head refl))

joined_old : (n : ℕ) (r : Result Page PageFault) (xs : List Logged) (p : Logged) → On xs p → On (joined n r xs) p
unfolding joined
joined_old n (Ok q) xs p m = Memᴰ.tail m
joined_old n (Err f) xs p m = m

joined_from : (n : ℕ) (r : Result Page PageFault) (xs : List Logged) (p : Logged) → On (joined n r xs) p → On xs p ⊎ ((p.place ≡ n) × (r ≡ Ok p.page))
unfolding joined
joined_from n (Ok q) xs p m =
    elim (Memᴰ.cases_cons m) [ inl e ↦ inr (ap (λ (x : Logged). x.place) e, ap (λ (x : Logged). Ok x.page) (sym e)) | inr h ↦ inl h ]
joined_from n (Err f) xs p m = inl m

below_to : (c : Chip) (n : ℕ) (p : Logged) → p.place < n → decoded (page c p.place) ≡ Ok p.page → On (below c n) p
unfolding below
below_to c zero p lt e = absurd (omega arith)
below_to c (suc n) p lt e =
    elim (ℕ_discrete p.place n) [
      | yes at ↦ joined_new n (decoded (page c n)) (below c n) p at (subst (λ (m : ℕ). decoded (page c m) ≡ Ok p.page) at e)
      | no other ↦ joined_old n (decoded (page c n)) (below c n) p (below_to c n p (omega arith) e)
    ]

below_from : (c : Chip) (n : ℕ) (p : Logged) → On (below c n) p → (p.place < n) × (decoded (page c p.place) ≡ Ok p.page)
unfolding below
below_from c zero p m = elim m [ ]
below_from c (suc n) p m =
    elim (joined_from n (decoded (page c n)) (below c n) p m) [
      | inl h ↦ let r = below_from c n p h in (omega (arith, r.0), r.1)
      | inr (at, e) ↦ (omega arith, subst (λ (x : ℕ). decoded (page c x) ≡ Ok p.page) (sym at) e)
    ]

-- the data pages of a chip
pub listed : Chip → List Logged
listed c = below c (length c.pages)

pub listed_to : (c : Chip) (p : Logged) → LogOf c p → On (listed c) p
unfolding listed
listed_to c p (h, e) = below_to c (length c.pages) p h e

pub listed_from : (c : Chip) (p : Logged) → On (listed c) p → LogOf c p
unfolding listed
listed_from c p m = below_from c (length c.pages) p m

-- a chip with a data page has a top page
pub chip_top : (c : Chip) (p : Logged) → LogOf c p → (t : Logged) × Top (LogOf c) t
chip_top c p h =
    let (t, top) = top_in (listed c) p (listed_to c p h) in
    (t, record { here = listed_from c t top.here; highest = λ q m. top.highest q (listed_to c q m) })
