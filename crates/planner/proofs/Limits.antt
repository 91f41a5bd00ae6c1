-- Arithmetic of the limit.
use Rattle.std.proofs.Common.{◌≡◌, ℕ, suc, ◌+◌, ◌-◌, ◌*◌, ◌<◌, ◌≤◌, sym, ap, ◌∙◌, mul-le-mul, mul-suc, arith}
use Rattle.planner.specs.State.{limit}

-- three blocks more than the limit make the whole chip
pub limit_more : (p b : ℕ) → 3 ≤ b → limit p b + 3 * p ≡ p * b
limit_more p b l = sym (ap (λ (x : ℕ). p * x) (let e : b ≡ suc (suc (suc (b - 3))) = omega arith in e) ∙ three p (b - 3))
  where
    three : (p n : ℕ) → p * suc (suc (suc n)) ≡ p * n + 3 * p
    three p n = omega (arith, mul-suc p (suc (suc n)), mul-suc p (suc n), mul-suc p n)

pub limit_same : (p q b c : ℕ) → p ≡ q → b ≡ c → limit p b ≡ limit q c
limit_same p q b c d e = ap (λ (x : ℕ). limit x b) d ∙ ap (limit q) e

-- a chip of 16 blocks of 16 pages has the most
pub limit_most : (p b : ℕ) → p ≤ 16 → b ≤ 16 → limit p b ≤ 208
limit_most p b l m = mul-le-mul l (let h : b - 3 ≤ 13 = omega arith in h)

-- below the next number and not this one
pub below_one : (a b : ℕ) → a < b + 1 → (a ≡ b → ⊥) → a < b
below_one a b h ne = omega arith
