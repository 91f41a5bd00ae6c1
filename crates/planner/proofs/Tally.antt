-- Counting by tests.
use Rattle.std.proofs.Common.{◌≡◌, ℕ, zero, suc, ◌+◌, ◌*◌, ◌<◌, ◌≤◌, Bool, true, false, cond, ◌&&◌, eqb, ltb, ◌⊎◌, refl, inl, inr, mul-zero, mul-suc, arith}
use native.Mathlib.Decide.{ℕ_discrete}
use Rattle.std.proofs.lemmas.Bool.Decides.{nat_tests}
use Rattle.std.proofs.lemmas.Bool.{cases_Bool}
use Rattle.planner.specs.Tally.{tally}

pub tally_le : (f : ℕ → Bool) (n : ℕ) → tally f n ≤ n
tally_le f zero = omega arith
tally_le f (suc n) = let h : tally f n ≤ n = tally_le f n in elim (cases_Bool (f n)) [ inl e ↦ rw e (omega arith) | inr e ↦ rw e (omega arith) ]

pub tally_same : (f g : ℕ → Bool) (n : ℕ) → ((k : ℕ) → k < n → f k ≡ g k) → tally f n ≡ tally g n
tally_same f g zero h = refl
tally_same f g (suc n) h =
    let e : f n ≡ g n = h n (omega arith) in
    let r : tally f n ≡ tally g n = tally_same f g n (λ k l. h k (omega arith)) in
    rw (e, r)

-- one of those that passed passes no more
pub tally_move : (f g : ℕ → Bool) (n i : ℕ) → i < n → f i ≡ true → g i ≡ false → ((k : ℕ) → k < n → (k ≡ i → ⊥) → f k ≡ g k) → tally f n ≡ suc (tally g n)
tally_move f g zero i l t u h = absurd (omega arith)
tally_move f g (suc n) i l t u h =
    elim (ℕ_discrete n i) [
      | yes e ↦
          let r : tally f n ≡ tally g n = tally_same f g n (λ k m. h k (omega arith) (λ q. omega arith)) in
          let a : f n ≡ true = rw e t in
          let b : g n ≡ false = rw e u in
          rw (a, b, r) (omega arith)
      | no ne ↦
          let r : tally f n ≡ suc (tally g n) = tally_move f g n i (omega arith) t u (λ k m. h k (omega arith)) in
          let a : f n ≡ g n = h n (omega arith) ne in
          rw (a, r) (omega arith)
    ]

pub tally_some : (f : ℕ → Bool) (n i : ℕ) → i < n → f i ≡ true → 0 < tally f n
tally_some f zero i l t = absurd (omega arith)
tally_some f (suc n) i l t =
    elim (ℕ_discrete n i) [
      | yes e ↦ let a : f n ≡ true = rw e t in rw a (omega arith)
      | no ne ↦ let r : 0 < tally f n = tally_some f n i (omega arith) t in omega arith
    ]

-- what passes f passes g or h
pub tally_or : (f g h : ℕ → Bool) (n : ℕ) → ((k : ℕ) → k < n → f k ≡ true → (g k ≡ true) ⊎ (h k ≡ true)) → tally f n ≤ tally g n + tally h n
tally_or f g h zero w = omega arith
tally_or f g h (suc n) w =
    let r : tally f n ≤ tally g n + tally h n = tally_or f g h n (λ k m. w k (omega arith)) in
    elim (cases_Bool (f n)) [
      | inl e ↦ elim (w n (omega arith) e) [ inl a ↦ rw (e, a) (omega arith) | inr a ↦ rw (e, a) (omega arith) ]
      | inr e ↦ rw e (omega arith)
    ]

-- what passes g or h passes f, and none passes both
pub tally_both : (f g h : ℕ → Bool) (n : ℕ) → ((k : ℕ) → k < n → g k ≡ true → (f k ≡ true) × (h k ≡ false)) → ((k : ℕ) → k < n → h k ≡ true → f k ≡ true) → tally g n + tally h n ≤ tally f n
tally_both f g h zero w v = omega arith
tally_both f g h (suc n) w v =
    let r : tally g n + tally h n ≤ tally f n = tally_both f g h n (λ k m. w k (omega arith)) (λ k m. v k (omega arith)) in
    elim (cases_Bool (g n)) [
      | inl e ↦ let a = w n (omega arith) e in rw (e, a.0, a.1) (omega arith)
      | inr e ↦ elim (cases_Bool (h n)) [ inl q ↦ rw (e, q, v n (omega arith) q) (omega arith) | inr q ↦ rw (e, q) (omega arith) ]
    ]

-- none passes
pub tally_none : (f : ℕ → Bool) (n : ℕ) → ((k : ℕ) → k < n → f k ≡ false) → tally f n ≡ 0
tally_none f zero h = refl
tally_none f (suc n) h = let r : tally f n ≡ 0 = tally_none f n (λ k m. h k (omega arith)) in let e : f n ≡ false = h n (omega arith) in rw (e, r) (omega arith)

-- at most one passes
pub tally_one : (f : ℕ → Bool) (n : ℕ) → ((j k : ℕ) → j < n → k < n → f j ≡ true → f k ≡ true → j ≡ k) → tally f n ≤ 1
tally_one f zero h = omega arith
tally_one f (suc n) h =
    elim (cases_Bool (f n)) [
      | inl e ↦
          let r : tally f n ≡ 0 = tally_none f n (λ k m. elim (cases_Bool (f k)) [ inl q ↦ absurd (omega (arith, h k n (omega arith) (omega arith) q e)) | inr q ↦ q ]) in
          rw (e, r) (omega arith)
      | inr e ↦
          let r : tally f n ≤ 1 = tally_one f n (λ j k m p. h j k (omega arith) (omega arith)) in rw e (omega arith)
    ]

-- those that pass have marks that differ, all below u
pub tally_marks : (f : ℕ → Bool) (mark : ℕ → ℕ) (n u : ℕ) → ((k : ℕ) → k < n → f k ≡ true → mark k < u) → ((j k : ℕ) → j < n → k < n → f j ≡ true → f k ≡ true → mark j ≡ mark k → j ≡ k) → tally f n ≤ u
tally_marks f mark n zero low apart = let e : tally f n ≡ 0 = tally_none f n (λ k m. elim (cases_Bool (f k)) [ inl q ↦ absurd (omega (arith, low k m q)) | inr q ↦ q ]) in omega arith
tally_marks f mark n (suc u) low apart =
    let g : ℕ → Bool = λ k. f k && ltb (mark k) u in
    let h : ℕ → Bool = λ k. f k && eqb (mark k) u in
    let a : tally f n ≤ tally g n + tally h n = tally_or f g h n (λ k m q. grind (arith, nat_tests, low k m q)) in
    let b : tally g n ≤ u = tally_marks g mark n u (λ k m q. grind (arith, nat_tests)) (λ j k m p q r. apart j k m p (grind (arith, nat_tests)) (grind (arith, nat_tests))) in
    let c : tally h n ≤ 1 = tally_one h n (λ j k m p q r. apart j k m p (grind (arith, nat_tests)) (grind (arith, nat_tests)) (grind (arith, nat_tests))) in
    omega arith

-- all blocks below b but f and h hold p each
pub crowd : (p : ℕ) (place : ℕ → ℕ) (n f h b : ℕ) → ((c : ℕ) → c < b → (c ≡ f → ⊥) → (c ≡ h → ⊥) → p ≤ tally (λ k. eqb (place k) c) n)
    → p * b ≤ tally (λ k. ltb (place k) b) n + cond (ltb f b) p 0 + cond (ltb h b) p 0
crowd p place n f h zero w = rw mul-zero (omega arith)
crowd p place n f h (suc b) w =
    let r : p * b ≤ tally (λ k. ltb (place k) b) n + cond (ltb f b) p 0 + cond (ltb h b) p 0 = crowd p place n f h b (λ c l. w c (omega arith)) in
    let s : tally (λ k. ltb (place k) b) n + tally (λ k. eqb (place k) b) n ≤ tally (λ k. ltb (place k) (suc b)) n
    = tally_both (λ k. ltb (place k) (suc b)) (λ k. ltb (place k) b) (λ k. eqb (place k) b) n (λ k m q. (grind (arith, nat_tests), grind (arith, nat_tests))) (λ k m q. grind (arith, nat_tests)) in
    let q : p * suc b ≡ p * b + p = mul-suc p b in
    elim (ℕ_discrete b f) [
      | yes e ↦ grind (arith, nat_tests)
      | no ne ↦ elim (ℕ_discrete b h) [ yes e ↦ grind (arith, nat_tests) | no nh ↦ let v : p ≤ tally (λ k. eqb (place k) b) n = w b (omega arith) ne nh in grind (arith, nat_tests) ]
    ]
