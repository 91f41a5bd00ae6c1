-- A walk by rising number, slot by slot, ends with what is shown.
use Rattle.std.proofs.Common.{ℕ, suc, ◌<◌, List, [], ◌∷◌, ap, inl, inr, arith}
use Rattle.object.specs.declared.key.Key.{Key}
use Rattle.object.specs.declared.value.Object.{Object}
use Rattle.replay.specs.Log.{Log, Logged, number_of, Counts, Shown}
use Rattle.replay.specs.Changes.{On}
use Rattle.replay.specs.Maps.{Map}
use Rattle.replay.specs.Walks.{Step, Steps, Nothing, With, Rising}
use Rattle.replay.specs.Crashes.{Walk}
use Rattle.replay.proofs.Base.{shown_same}
use Rattle.replay.proofs.Putting.{Iff, Grown, step_to, step_from, grown_to, grown_from}

steps_map : (m n : Map) → ((k : Key) (v : Object) → m k v → n k v) → (ps : List Logged) (k : Key) (v : Object) → Steps m ps k v → Steps n ps k v
steps_map m n f [] k v h = f k v h
steps_map m n f (p ∷ ps) k v h =
    steps_map (Step m p) (Step n p) (λ j u s. elim s [ inl g ↦ inl g | inr t ↦ inr (t.0, f j u t.1) ]) ps k v h

pub shown_steps : (C : Log) (ps : List Logged) (n : ℕ) → ((q : Logged) → C q → number_of q < n) → Rising n ps
    → Iff (Shown (Grown C ps)) (Steps (Shown C) ps)
shown_steps C [] n below r k v = (λ s. s, λ s. s)
shown_steps C (p ∷ ps) n below r k v =
    let rest = shown_steps (With C p) ps (suc (number_of p)) lower r.1 k v in (
      λ s. steps_map (Shown (With C p)) (Step (Shown C) p) (step_to C p above) ps k v (rest.0 s),
      λ h. rest.1 (steps_map (Step (Shown C) p) (Shown (With C p)) (step_from C p above) ps k v h),
    )
  where
    above : (q : Logged) → C q → number_of q < number_of p
    above q c = omega (arith, below q c, r.0)

    lower : (q : Logged) → With C p q → number_of q < suc (number_of p)
    lower q w = elim w [ inl c ↦ omega (arith, above q c) | inr e ↦ omega (arith, ap number_of e) ]

-- the same for any set of pages that a list names
pub walk_shows : (C : Log) (cs : List Logged) → ((p : Logged) → (On cs p → C p) × (C p → On cs p)) → Rising 0 cs → Iff (Shown C) (Steps Nothing cs)
walk_shows C cs same rising k v =
    let both = shown_steps None cs 0 (λ q c. absurd c) rising k v in (
      λ s. steps_map (Shown None) Nothing (λ j u n. n.counted) cs k v (both.0 (shown_same to from k v s)),
      λ h. shown_same from to k v (both.1 (steps_map Nothing (Shown None) (λ j u n. absurd n) cs k v h)),
    )
  where
    None : Log
    None p = ⊥

    to : (p : Logged) → C p → Grown None cs p
    to p c = grown_to None cs p (inr ((same p).1 c))

    from : (p : Logged) → Grown None cs p → C p
    from p g = elim (grown_from None cs p g) [ inl n ↦ absurd n | inr m ↦ (same p).0 m ]

pub walk : Walk
walk xs cs f same rising = walk_shows (Counts (On xs) f) cs same rising
