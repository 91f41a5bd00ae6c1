-- A census that takes in one page more.
use Rattle.std.proofs.Common.{◌≡◌, ℕ, ◌+◌, ◌<◌, ◌≤◌, min, max, true, false, cond, List, [], ◌∷◌, ◌++◌, length, get_or, Some, None, Option, sym, refl, ap, ◌∙◌, subst, arith, MatchOption}
use native.Mathlib.Decide.{dec_lt, dec_le}
use Rattle.std.proofs.lemmas.List.{get_or_append_left, get_or_push, length_push}
use Rattle.std.proofs.lemmas.List.Sums.{sum_by_push, get_or-le-sum_by}
use Rattle.page.specs.declared.code.PageState.{PageState}
use Rattle.page.specs.declared.code.PageState.TheVariants.{Erased, Data, Spoilt}
use Rattle.page.specs.Code.{state_of}
use Rattle.inspect.specs.declared.census.Census.{Census}
use Rattle.inspect.specs.declared.census.Numbers.{Numbers}
use Rattle.inspect.specs.Counted.{same_state, in_state, number_of, Has, Spanned, Counted, widened_by}

-- a page that is data counts
no_data : (pages : List (List ℕ)) (k : ℕ) → in_state Data pages ≡ 0 → k < length pages → state_of (get_or pages k []) ≡ Data → ⊥
no_data pages k none h e =
    let one : ◌≡◌ {A = ℕ} (cond (same_state Data (state_of (get_or pages k []))) 1 0) 1 = ap (λ s. cond {A = ℕ} (same_state Data s) 1 0) e in
    omega (arith, one, none, get_or-le-sum_by (λ page. cond (same_state Data (state_of page)) 1 0) pages k [] h)

module _ (pages : List (List ℕ)) (p : List ℕ) where
  abbrev more : List (List ℕ)
  more = pages ++ p ∷ []

  in_state_push : (s t : PageState) → state_of p ≡ t → in_state s (pages ++ p ∷ []) ≡ in_state s pages + cond (same_state s t) 1 0
  in_state_push s t e = sum_by_push (λ page. cond (same_state s (state_of page)) 1 0) pages p ∙ ap (λ u. in_state s pages + cond (same_state s u) 1 0) e

  long : length (pages ++ p ∷ []) ≡ length pages + 1
  long = length_push pages p

  old_at : (k : ℕ) → k < length pages → get_or (pages ++ p ∷ []) k [] ≡ get_or pages k []
  old_at k h = get_or_append_left pages (p ∷ []) [] k h

  new_at : get_or (pages ++ p ∷ []) (length pages) [] ≡ p
  new_at = get_or_push pages p [] (length pages) refl

  has_old : (n : ℕ) → Has pages n → Has (pages ++ p ∷ []) n
  has_old n (k, h, is, num) = (k, omega (arith, long), ap state_of (old_at k h) ∙ is, ap number_of (old_at k h) ∙ num)

  has_new : state_of p ≡ Data → Has (pages ++ p ∷ []) (number_of p)
  has_new is = (length pages, omega (arith, long), ap state_of new_at ∙ is, ap number_of new_at)

  -- what holds of each old page and of the new one holds of all
  each : (P : List ℕ → Type 0) → ((k : ℕ) → k < length pages → P (get_or pages k [])) → P p → (k : ℕ) → k < length (pages ++ p ∷ []) → P (get_or (pages ++ p ∷ []) k [])
  each P old new k h =
      elim (dec_lt k (length pages)) [
        | yes l ↦ subst P (sym (old_at k l)) (old k l)
        | no ge ↦ (let e : length pages ≡ k = omega (arith, long) in subst (λ i. P (get_or (pages ++ p ∷ []) i [])) e (subst P (sym new_at) new))
      ]

  abbrev Inside : Numbers → List ℕ → Type 0
  Inside n q = state_of q ≡ Data → (n.lowest ≤ number_of q) × (number_of q ≤ n.highest)

  -- a page that is no data changes no numbers
  spans_kept : (t : PageState) → state_of p ≡ t → same_state Data t ≡ false → (ns : Option Numbers) → MatchOption ns (in_state Data pages ≡ 0) (Spanned pages)
      → MatchOption ns (in_state Data (pages ++ p ∷ []) ≡ 0) (Spanned (pages ++ p ∷ []))
  spans_kept t is other None none = omega (arith, in_state_push Data t is, ap (λ b. cond {A = ℕ} b 1 0) other, none)
  spans_kept t is other (Some n) s =
      record {
        low = has_old n.lowest s.low;
        high = has_old n.highest s.high;
        within = each (Inside n) s.within (λ data-page. absurd (clash (sym (ap (same_state Data) (sym is ∙ data-page)) ∙ other)));
      }
    where
      clash : true ≡ false → ⊥
      clash e = let z : ◌≡◌ {A = ℕ} 0 1 = cc in omega arith

  -- a data page widens them
  spans_widened : state_of p ≡ Data → (ns : Option Numbers) → MatchOption ns (in_state Data pages ≡ 0) (Spanned pages) → Spanned (pages ++ p ∷ []) (widened_by ns (number_of p))
  spans_widened is None none =
      record {
        low = has_new is;
        high = has_new is;
        within = each (Inside (widened_by None (number_of p))) (λ k h e. absurd (no_data pages k none h e)) (λ _. (omega arith, omega arith));
      }
  spans_widened is (Some n) s =
      record {
        low = elim (dec_le n.lowest (number_of p)) [
          | yes l ↦ (let e : n.lowest ≡ min n.lowest (number_of p) = omega arith in subst (Has (pages ++ p ∷ [])) e (has_old n.lowest s.low))
          | no g ↦ (let e : number_of p ≡ min n.lowest (number_of p) = omega arith in subst (Has (pages ++ p ∷ [])) e (has_new is))
        ];
        high = elim (dec_le (number_of p) n.highest) [
          | yes l ↦ (let e : n.highest ≡ max n.highest (number_of p) = omega arith in subst (Has (pages ++ p ∷ [])) e (has_old n.highest s.high))
          | no g ↦ (let e : number_of p ≡ max n.highest (number_of p) = omega arith in subst (Has (pages ++ p ∷ [])) e (has_new is))
        ];
        within = each (Inside (widened_by (Some n) (number_of p))) (λ k h e. let w = s.within k h e in (omega (arith, w.0), omega (arith, w.1))) (λ _. (omega arith, omega arith));
      }

  pub counted_erased : (c : Census) → state_of p ≡ Erased → Counted pages c → Counted (pages ++ p ∷ []) (record { «data» = c.«data»; spoilt = c.spoilt; erased = c.erased + 1; numbers = c.numbers })
  counted_erased c is k =
      record {
        data_pages = omega (arith, in_state_push Data Erased is, k.data_pages);
        spoilt_pages = omega (arith, in_state_push Spoilt Erased is, k.spoilt_pages);
        erased_pages = omega (arith, in_state_push Erased Erased is, k.erased_pages);
        spans = spans_kept Erased is refl c.numbers k.spans;
      }

  pub counted_spoilt : (c : Census) → state_of p ≡ Spoilt → Counted pages c → Counted (pages ++ p ∷ []) (record { «data» = c.«data»; spoilt = c.spoilt + 1; erased = c.erased; numbers = c.numbers })
  counted_spoilt c is k =
      record {
        data_pages = omega (arith, in_state_push Data Spoilt is, k.data_pages);
        spoilt_pages = omega (arith, in_state_push Spoilt Spoilt is, k.spoilt_pages);
        erased_pages = omega (arith, in_state_push Erased Spoilt is, k.erased_pages);
        spans = spans_kept Spoilt is refl c.numbers k.spans;
      }

  pub counted_data : (c : Census) (n : Numbers) → state_of p ≡ Data → n ≡ widened_by c.numbers (number_of p) → Counted pages c
      → Counted (pages ++ p ∷ []) (record { «data» = c.«data» + 1; spoilt = c.spoilt; erased = c.erased; numbers = Some n })
  counted_data c n is e k =
      record {
        data_pages = omega (arith, in_state_push Data Data is, k.data_pages);
        spoilt_pages = omega (arith, in_state_push Spoilt Data is, k.spoilt_pages);
        erased_pages = omega (arith, in_state_push Erased Data is, k.erased_pages);
        spans = subst (Spanned (pages ++ p ∷ [])) (sym e) (spans_widened is c.numbers k.spans);
      }
