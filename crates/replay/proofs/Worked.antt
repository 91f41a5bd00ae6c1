-- A log with one note, and a complete group of one that makes a file: all that the law of the complete group asks can be met.
use Rattle.std.proofs.Common.{◌≡◌, ◌≤◌, ◌⊎◌, [], ◌∷◌, sym, refl, ap, ◌∙◌, subst, inl, inr, arith}
use mathlib.Core.List.Memᴰ
use Rattle.object.specs.declared.value.Object.TheVariants as object
use Rattle.page.specs.declared.fields.Content.TheVariants.{Note}
use Rattle.page.specs.declared.fields.Content.TheVariants as content
use Rattle.page.specs.declared.fields.Entry.{Entry}
use Rattle.replay.specs.Log.{Logged, number_of, index_of, size_of, entry_key, chunk_key, Counts, Speaks, Tells}
use Rattle.replay.specs.Changes.{On}
use Rattle.replay.proofs.Counting.{rises_same}
use Rattle.replay.proofs.Putting.{fit_new}
use Rattle.replay.proofs.Groups.{finished_group}

abbrev first : Logged
first = record { place = 0; page = record { header = record { index = 0; size = 1; number = 1; floor = 1; file = 0 }; content = Note } }

abbrev made : Entry → Logged
made e = record { place = 1; page = record { header = record { index = 0; size = 1; number = 2; floor = 1; file = 7 }; content = content.Entry e } }

pub told_seven : (e : Entry) → Tells (On (made e ∷ first ∷ [])) (entry_key 7) (object.Entry e)
told_seven e =
    (finished_group (first ∷ []) (made e ∷ []) (made e ∷ first ∷ []) first (made e) 2 1
    (λ p q a b s. Memᴰ.eq_of_singleton a ∙ sym (Memᴰ.eq_of_singleton b))
    (λ p q a b s. distinct p q (two p a) (two q b) s)
    (record { here = Memᴰ.head refl; highest = λ p m. omega (arith, ap number_of (Memᴰ.eq_of_singleton m)) })
    (record { here = Memᴰ.head refl; highest = λ p m. low p (two p m) })
    (record {
      only = λ p m. elim (Memᴰ.cases_cons m) [ inl s ↦ inr (Memᴰ.head s) | inr h ↦ inl h ];
      old = λ p m. Memᴰ.tail m;
      new = λ p m. Memᴰ.head (Memᴰ.eq_of_singleton m);
    })
    (record {
      below = λ p m. omega (arith, ap number_of (Memᴰ.eq_of_singleton m));
      numbered = λ p m. omega (arith, ap number_of (Memᴰ.eq_of_singleton m), ap index_of (Memᴰ.eq_of_singleton m));
      sized = λ p m. ap size_of (Memᴰ.eq_of_singleton m);
    })
    (rises_same (On (first ∷ [])) 1)
    (omega arith)
    (λ k lt. (made e, Memᴰ.head refl, omega arith))
    (omega arith, tt)
    (fit_new (Counts (On (first ∷ [])) 1) 7 e (λ p i c s. subst (λ (q : Logged). Speaks q (chunk_key 7 i)) (Memᴰ.eq_of_singleton c.here) s), tt)
    (entry_key 7) (object.Entry e)).1 (inl (refl, refl))
  where
    two : (p : Logged) → On (made e ∷ first ∷ []) p → (p ≡ made e) ⊎ (p ≡ first)
    two p m = elim (Memᴰ.cases_cons m) [ inl s ↦ inl s | inr h ↦ inr (Memᴰ.eq_of_singleton h) ]

    low : (p : Logged) → (p ≡ made e) ⊎ (p ≡ first) → number_of p ≤ 2
    low p (inl a) = omega (arith, ap number_of a)
    low p (inr a) = omega (arith, ap number_of a)

    distinct : (p q : Logged) → (p ≡ made e) ⊎ (p ≡ first) → (q ≡ made e) ⊎ (q ≡ first) → number_of p ≡ number_of q → p ≡ q
    distinct p q (inl a) (inl b) s = a ∙ sym b
    distinct p q (inl a) (inr b) s = absurd (omega (arith, ap number_of a, ap number_of b))
    distinct p q (inr a) (inl b) s = absurd (omega (arith, ap number_of a, ap number_of b))
    distinct p q (inr a) (inr b) s = a ∙ sym b
