-- Which pages count after the floor rises, and after a group, whole or not, is added.
use Rattle.std.proofs.Common.{◌≡◌, ℕ, ◌<◌, ◌≤◌, ◌⊎◌, inl, inr, arith}
use Rattle.replay.specs.Log.{Log, Logged, index_of, Part, Complete, Counts}
use Rattle.replay.specs.Changes.{Added, Group, Rises}
use Rattle.replay.proofs.Base.{Alike, alike_same, alike_trans, complete_more}
use Rattle.replay.proofs.Agree.{raise}

pub risen : (L : Log) (f g : ℕ) → Rises L f g → Alike (Counts L f) (Counts L g)
risen L f g r =
    alike_trans (raise (Counts L f) g r.kept)
    (alike_same (λ p a. record { here = a.0.here; high = a.1; whole = a.0.whole })
    (λ p c. (record { here = c.here; high = omega (arith, r.up, c.high); whole = c.whole }, c.high)))

-- the floor may stay
pub rises_same : (L : Log) (f : ℕ) → Rises L f f
rises_same L f = record { up = omega arith; kept = λ k v t. record { shown = t.shown; high = t.shown.counted.high } }

module _ (L G M : Log) (base size : ℕ) (added : Added L G M) (group : Group L G base size) where
  -- no new page is of the group of an old one, nor the other way round
  old_whole : (p : Logged) → L p → Complete M p → Complete L p
  old_whole p l w k lt =
      let (q, m, part) = w k lt in
      (q, elim (added.only q m) [ inl a ↦ a | inr b ↦ absurd (omega (arith, group.below p l, group.numbered q b, part.numbered, part.indexed)) ], part)

  new_part : (q r : Logged) (k : ℕ) → G q → M r → Part q k r → G r
  new_part q r k b m part =
      elim (added.only r m) [ inl a ↦ absurd (omega (arith, group.below r a, group.numbered q b, part.numbered, part.indexed)) | inr c ↦ c ]

  counts_old : (f : ℕ) (p : Logged) → Counts L f p → Counts M f p
  counts_old f p c = record { here = added.old p c.here; high = c.high; whole = complete_more added.old p c.whole }

  -- a group that lacks the page j
  pub torn_alike : (f j : ℕ) → j < size → ((q : Logged) → G q → index_of q ≡ j → ⊥) → Alike (Counts L f) (Counts M f)
  torn_alike f j lt lacks = alike_same (counts_old f) from
    where
      never : (q : Logged) → G q → Complete M q → ⊥
      never q b w = let (r, m, part) = w j (omega (arith, group.sized q b)) in lacks r (new_part q r j b m part) part.indexed

      from : (p : Logged) → Counts M f p → Counts L f p
      from p c =
          elim (added.only p c.here) [
            | inl a ↦ record { here = a; high = c.high; whole = old_whole p a c.whole }
            | inr b ↦ absurd (never p b c.whole)
          ]

  module _ (f : ℕ) (low : f ≤ base) (filled : (k : ℕ) → k < size → (q : Logged) × G q × (index_of q ≡ k)) where
    pub whole_from : (p : Logged) → Counts M f p → Counts L f p ⊎ G p
    whole_from p c =
        elim (added.only p c.here) [ inl a ↦ inl (record { here = a; high = c.high; whole = old_whole p a c.whole }) | inr b ↦ inr b ]

    pub whole_to : (p : Logged) → Counts L f p ⊎ G p → Counts M f p
    whole_to p (inl c) = counts_old f p c
    whole_to p (inr b) =
        record {
          here = added.new p b;
          high = omega (arith, group.numbered p b);
          whole = λ k lt.
              let (q, here, indexed) = filled k (omega (arith, group.sized p b)) in (
                q,
                added.new q here,
                record {
                  numbered = omega (arith, group.numbered p b, group.numbered q here);
                  indexed = indexed;
                  sized = omega (arith, group.sized p b, group.sized q here);
                },
              );
        }
