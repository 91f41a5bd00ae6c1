-- The least number of the slots that pass a test.
use Rattle.std.proofs.Common.{◌≡◌, ℕ, zero, suc, ◌<◌, ◌≤◌, ◌⊎◌, min, Bool, true, List, [], ◌∷◌, length, get_or, map, Option, Some, None, MatchOption, sym, refl, ap, ◌∙◌, subst, inl, inr, arith}
use native.Mathlib.Decide.{dec_le}
use Rattle.std.specs.List.{filter, fold, reduce}
use Rattle.std.proofs.Math.Nat.{min-le_left, min-le_right, min-eq_left, min-eq_right}
use Rattle.planner.specs.Order.{Slot}
use Rattle.planner.specs.Shape.{blank}
use Rattle.planner.proofs.Filtered.{passed, from}

abbrev numbers : List Slot → List ℕ
numbers xs = map (λ (x : Slot). x.number) xs

abbrev Has : List Slot → ℕ → Type 0
Has xs m = (k : ℕ) × (k < length xs) × (m ≡ (get_or xs k blank).number)

abbrev Bounds : List Slot → ℕ → Type 0
Bounds xs m = (k : ℕ) → k < length xs → m ≤ (get_or xs k blank).number

either : (a b : ℕ) → (min a b ≡ a) ⊎ (min a b ≡ b)
either a b = elim (dec_le a b) [ yes h ↦ inl (min-eq_left h) | no h ↦ inr (min-eq_right (omega arith)) ]

bounds_more : (x : Slot) (xs : List Slot) (m : ℕ) → m ≤ x.number → Bounds xs m → Bounds (x ∷ xs) m
bounds_more x xs m first rest zero l = first
bounds_more x xs m first rest (suc k) l = rest k (omega (arith, l))

-- m is the least of a and the numbers
record From (a : ℕ) (xs : List Slot) (m : ℕ) : Type 0 where
  pub first : m ≤ a
  pub bounds : Bounds xs m
  pub some : (m ≡ a) ⊎ Has xs m

least_from : (xs : List Slot) (a : ℕ) → From a xs (fold min a (numbers xs))
least_from [] a = record { first = omega arith; bounds = λ k l. absurd (omega (arith, l)); some = inl refl }
least_from (x ∷ xs) a = more (least_from xs (min a x.number))
  where
    more : From (min a x.number) xs (fold min (min a x.number) (numbers xs)) → From a (x ∷ xs) (fold min (min a x.number) (numbers xs))
    more h =
        record {
          first = omega (arith, h.first, min-le_left a x.number);
          bounds = bounds_more x xs _ (omega (arith, h.first, min-le_right a x.number)) h.bounds;
          some = elim h.some [
            | inl q ↦ elim (either a x.number) [ inl w ↦ inl (q ∙ w) | inr w ↦ inr (zero, omega arith, q ∙ w) ]
            | inr q ↦ inr (suc q.0, omega (arith, q.1), q.2)
          ];
        }

least : (xs : List Slot) → MatchOption (reduce min (numbers xs)) (length xs ≡ 0) (λ m. Bounds xs m × Has xs m)
least [] = refl
least (x ∷ xs) =
    let h = least_from xs x.number in (
      bounds_more x xs _ h.first h.bounds,
      elim h.some [ inl q ↦ (zero, omega arith, q) | inr q ↦ (suc q.0, omega (arith, q.1), q.2) ],
    )

-- none passes, or m is the least number of those that do
abbrev pub LeastOf : (Slot → Bool) → List Slot → Option ℕ → Type 0
LeastOf test xs r =
    MatchOption r ((k : ℕ) → k < length xs → test (get_or xs k blank) ≡ true → ⊥)
    (λ m. ((k : ℕ) → k < length xs → test (get_or xs k blank) ≡ true → m ≤ (get_or xs k blank).number)
    × ((k : ℕ) × (k < length xs) × (test (get_or xs k blank) ≡ true) × (m ≡ (get_or xs k blank).number)))

abbrev Found : List Slot → Option ℕ → Type 0
Found ys r = MatchOption r (length ys ≡ 0) (λ m. Bounds ys m × Has ys m)

pub least_passing : (test : Slot → Bool) (xs : List Slot) (r : Option ℕ) → r ≡ reduce min (numbers (filter test xs)) → LeastOf test xs r
least_passing test xs r e = by r (subst (Found (filter test xs)) (sym e) (least (filter test xs)))
  where
    none : length (filter test xs) ≡ 0 → (k : ℕ) → k < length xs → test (get_or xs k blank) ≡ true → ⊥
    none h k l t = let a = passed test xs (get_or xs k blank) (k, l, refl) t in omega (arith, h, a.1)

    by : (r : Option ℕ) → Found (filter test xs) r → LeastOf test xs r
    by None h = none h
    by (Some m) h = (
      λ k l t. (let a = passed test xs (get_or xs k blank) (k, l, refl) t in omega (arith, h.0 a.0 a.1, ap (λ (x : Slot). x.number) a.2)),
      let w = from test xs (get_or (filter test xs) h.1.0 blank) (h.1.0, h.1.1, refl) in
          (w.0.0, w.0.1, ap test w.0.2 ∙ w.1, h.1.2 ∙ ap (λ (x : Slot). x.number) (sym w.0.2)),
    )
