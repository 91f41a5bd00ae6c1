-- Opening a free block keeps the tables sound.
use Rattle.std.proofs.Common.{◌≡◌, ℕ, ◌<◌, ap, ◌∙◌, arith}
use native.Mathlib.Decide.{ℕ_discrete}
use Rattle.planner.specs.State.{State, Sound, Free}
use Rattle.planner.specs.Moves.{Opened}
use Rattle.planner.proofs.Unmoved.{unmoved_sound}

-- no key lies in a free block
pub free_empty : (s : State) → Sound s → (b : ℕ) → Free s b → (k : ℕ) → k < s.count → s.block k ≡ b → ⊥
free_empty s w b f k l e = let h : s.high (s.block k) ≡ s.high b = ap s.high e in omega (arith, w.held k l, w.counted k l)

module _ (s : State) (w : Sound s) (b : ℕ) (f : Free s b) (t : State) (o : Opened s b t) where
  back : (k : ℕ) → k < t.count → k < s.count
  back k l = omega (arith, o.count)

  pub open_high : (k : ℕ) → k < s.count → t.high (t.block k) ≡ s.high (s.block k)
  open_high k l = ap t.high (o.kept k l).block ∙ o.high (s.block k) (w.inside k l) (free_empty s w b f k l)

  pub open_sound : Sound t
  open_sound =
      unmoved_sound s t w (record { per = o.per; blocks = o.blocks; count = o.count; kept = o.kept; high = open_high; floor = o.floor })
      (λ c l.
      elim (ℕ_discrete c b) [
        | yes e ↦ (let h : t.high c ≡ 0 = ap t.high e ∙ o.here in omega arith)
        | no ne ↦ omega (arith, o.high c (omega (arith, o.blocks)) ne, w.highest c (omega (arith, o.blocks)), o.last)
      ])
      (omega (arith, o.floor, o.last, w.low))
      (omega (arith, o.used))
      (λ h. absurd (omega (arith, o.head, o.blocks, f.real)))
      (λ k l e. absurd (free_empty s w b f k (back k l) (omega (arith, (o.kept k (back k l)).block, o.head))))
      (λ h. absurd (omega (arith, o.used)))
