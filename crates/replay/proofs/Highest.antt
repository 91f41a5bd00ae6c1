-- Of the pages of a list that pass a test, the one with the highest number.
use Rattle.std.proofs.Common.{◌≤◌, ◌⊎◌, List, [], ◌∷◌, refl, ap, subst, inl, inr, arith}
use mathlib.Core.List.Memᴰ
use native.Mathlib.Decide.{dec_le}
use Rattle.replay.specs.Log.{Logged, number_of, Top}
use Rattle.replay.specs.Changes.{On}

pub record Best (Q : Logged → Type 0) (xs : List Logged) (p : Logged) : Type 0 where
  pub here : On xs p
  pub passes : Q p
  pub best : (q : Logged) → On xs q → Q q → number_of q ≤ number_of p

module _ (Q : Logged → Type 0) (test : (p : Logged) → Dec (Q p)) where
  one_more : (x : Logged) (xs : List Logged) (p : Logged) → Best Q xs p → (Q x → number_of x ≤ number_of p) → Best Q (x ∷ xs) p
  one_more x xs p b le =
      record {
        here = Memᴰ.tail b.here;
        passes = b.passes;
        best = λ q m h. elim (Memᴰ.cases_cons m) [ inl e ↦ omega (arith, ap number_of e, le (subst Q e h)) | inr t ↦ b.best q t h ];
      }

  new_best : (x : Logged) (xs : List Logged) → Q x → ((q : Logged) → On xs q → Q q → number_of q ≤ number_of x) → Best Q (x ∷ xs) x
  new_best x xs h le =
      record {
        here = Memᴰ.head refl;
        passes = h;
        best = λ q m k. elim (Memᴰ.cases_cons m) [ inl e ↦ omega (arith, ap number_of e) | inr t ↦ le q t k ];
      }

  pub highest : (xs : List Logged) → ((p : Logged) → On xs p → Q p → ⊥) ⊎ ((p : Logged) × Best Q xs p)
  highest [] = inl (λ p m h. elim m [ ])
  highest (x ∷ xs) = go (highest xs) (test x)
    where
      go : ((p : Logged) → On xs p → Q p → ⊥) ⊎ ((p : Logged) × Best Q xs p) → Dec (Q x)
          → ((p : Logged) → On (x ∷ xs) p → Q p → ⊥) ⊎ ((p : Logged) × Best Q (x ∷ xs) p)
      go (inl none) (no n) = inl (λ p m h. elim (Memᴰ.cases_cons m) [ inl e ↦ n (subst Q e h) | inr t ↦ none p t h ])
      go (inl none) (yes y) = inr (x, new_best x xs y (λ q m h. absurd (none q m h)))
      go (inr (p, b)) (no n) = inr (p, one_more x xs p b (λ h. absurd (n h)))
      go (inr (p, b)) (yes y) =
          elim (dec_le (number_of x) (number_of p)) [
            | yes le ↦ inr (p, one_more x xs p b (λ h. le))
            | no gt ↦ inr (x, new_best x xs y (λ q m h. omega (arith, b.best q m h)))
          ]

-- a list with a page has a top page
pub top_in : (xs : List Logged) (p : Logged) → On xs p → (t : Logged) × Top (On xs) t
top_in xs p m =
    elim (highest (λ q. Unit {0}) (λ q. yes tt) xs) [
      | inl none ↦ absurd (none p m tt)
      | inr found ↦ (found.0, record { here = found.1.here; highest = λ q h. found.1.best q h tt })
    ]
