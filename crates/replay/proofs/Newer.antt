-- What is shown is the word of the newest counted page of the slot, for any list of pages with distinct numbers.
use Rattle.std.proofs.Common.{ℕ, zero, suc, ◌+◌, ◌<◌, ◌≤◌, ◌⊎◌, List, [], ◌∷◌, sym, refl, subst, inl, inr, arith}
use mathlib.Core.List.Memᴰ
use native.Mathlib.Decide.{dec_le, ℕ_discrete}
use Rattle.object.specs.declared.key.Key.{Key}
use Rattle.replay.specs.Log.{Logged, number_of, index_of, size_of, Part, Complete, Counts, Speaks, Gives, Shown}
use Rattle.replay.specs.Changes.{On}
use Rattle.replay.specs.Walks.{Newest}
use Rattle.replay.specs.Crashes.{NewestTells}
use Rattle.replay.proofs.Agree.{gives_speaks}
use Rattle.replay.proofs.Putting.{speaks_dec}
use Rattle.replay.proofs.Highest.{Best, highest}

-- a finite search, twice
all_below : (n : ℕ) (P : ℕ → Type 0) → ((k : ℕ) → Dec (P k)) → Dec ((k : ℕ) → k < n → P k)
all_below zero P d = yes (λ k lt. absurd (omega arith))
all_below (suc n) P d =
    elim (all_below n P d) [
      | yes h ↦
          elim (d n) [
            | yes here ↦ yes (λ k lt. elim (ℕ_discrete k n) [ yes e ↦ subst P (sym e) here | no ne ↦ h k (omega arith) ])
            | no not ↦ no (λ f. not (f n (omega arith)))
          ]
      | no not ↦ no (λ f. not (λ k lt. f k (omega arith)))
    ]

some_in : (P : Logged → Type 0) → ((q : Logged) → Dec (P q)) → (xs : List Logged) → Dec ((q : Logged) × On xs q × P q)
some_in P d [] = no (λ (q, m, h). elim m [ ])
some_in P d (x ∷ xs) =
    elim (d x) [
      | yes h ↦ yes (x, Memᴰ.head refl, h)
      | no n ↦
          elim (some_in P d xs) [
            | yes (q, m, h) ↦ yes (q, Memᴰ.tail m, h)
            | no none ↦ no (λ (q, m, h). elim (Memᴰ.cases_cons m) [ inl e ↦ n (subst P e h) | inr t ↦ none (q, t, h) ])
          ]
    ]

part_dec : (p : Logged) (k : ℕ) (q : Logged) → Dec (Part p k q)
part_dec p k q =
    elim (ℕ_discrete (number_of q + index_of p) (number_of p + k)) [
      | yes a ↦
          elim (ℕ_discrete (index_of q) k) [
            | yes b ↦
                elim (ℕ_discrete (size_of q) (size_of p)) [
                  | yes c ↦ yes (record { numbered = a; indexed = b; sized = c })
                  | no n ↦ no (λ h. n h.sized)
                ]
            | no n ↦ no (λ h. n h.indexed)
          ]
      | no n ↦ no (λ h. n h.numbered)
    ]

-- the page counts, at the floor f, and speaks to the slot
abbrev Heard : List Logged → ℕ → Key → Logged → Type 0
Heard xs f k p = (f ≤ number_of p) × Complete (On xs) p × Speaks p k

heard_dec : (xs : List Logged) (f : ℕ) (k : Key) (p : Logged) → Dec (Heard xs f k p)
heard_dec xs f k p =
    elim (dec_le f (number_of p)) [
      | yes a ↦
          elim (all_below (size_of p) (λ j. (q : Logged) × On xs q × Part p j q) (λ j. some_in (Part p j) (part_dec p j) xs)) [
            | yes b ↦ elim (speaks_dec p k) [ yes c ↦ yes (a, b, c) | no n ↦ no (λ h. n h.2) ]
            | no n ↦ no (λ h. n h.1)
          ]
      | no n ↦ no (λ h. n h.0)
    ]

pub newest_tells : NewestTells
newest_tells xs f k v d = (to, from)
  where
    to : Shown (Counts (On xs) f) k v → (p : Logged) × Newest (Counts (On xs) f) k p × Gives p k v
    to s = go (highest (Heard xs f k) (heard_dec xs f k) xs)
      where
        heard : Heard xs f k s.by
        heard = (s.counted.high, s.counted.whole, gives_speaks s.by k v s.gives)

        go : ((p : Logged) → On xs p → Heard xs f k p → ⊥) ⊎ ((p : Logged) × Best (Heard xs f k) xs p)
            → (p : Logged) × Newest (Counts (On xs) f) k p × Gives p k v
        go (inl none) = absurd (none s.by s.counted.here heard)
        go (inr (p, b)) =
            let counts : Counts (On xs) f p = record { here = b.here; high = b.passes.0; whole = b.passes.1 } in (
              p,
              record { counted = counts; speaks = b.passes.2; newest = λ q c h. b.best q c.here (c.high, c.whole, h) },
              s.last p counts b.passes.2 (b.best s.by s.counted.here heard),
            )

    from : (p : Logged) × Newest (Counts (On xs) f) k p × Gives p k v → Shown (Counts (On xs) f) k v
    from (p, n, g) =
        record {
          by = p;
          counted = n.counted;
          gives = g;
          last = λ q c s l. subst (λ (r : Logged). Gives r k v) (d p q n.counted.here c.here (omega (arith, n.newest q c s))) g;
        }
