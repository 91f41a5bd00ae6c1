-- The phase after a block is opened or a key is copied: what it keeps, and that the end comes nearer.
use Rattle.std.proofs.Common.{◌≡◌, ℕ, suc, ◌+◌, ◌<◌, ◌≤◌, leb, ◌⊎◌, sym, ap, ◌∙◌, subst, inl, inr, arith}
use mathlib.Core.Logic.{∥∥₁_elim, ∥∥₁_map}
use native.Mathlib.Bridge.{le_prop}
use Rattle.std.proofs.lemmas.Bool.Decides.{nat_tests}
use Rattle.planner.specs.State.{State, Sound, Free, old}
use Rattle.planner.specs.Moves.{Opened, Copied, Rises}
use Rattle.planner.specs.Making.{Spare, Making}
use Rattle.planner.specs.Shape.{Keeps}
use Rattle.planner.specs.Steps.{Another, MayOpen, Copying, MayCopy, PhaseAfter, ahead, work}
use Rattle.planner.specs.declared.head.Phase.{Phase}
use Rattle.planner.specs.declared.head.Phase.TheVariants.{AtRest, MakingRoom}
use Rattle.planner.proofs.Tally.{tally_le}
use Rattle.planner.proofs.OpenMaking.{same_old, open_first, open_again, open_other}
use Rattle.planner.proofs.CopyMaking.{lowest_old, old_less, freed, copy_making}

pub keeps_spare : (p : Phase) (s : State) → ∥ Keeps p s ∥₁ → ∥ Spare s ∥₁
keeps_spare AtRest s k = ∥∥₁_map k inl
keeps_spare (MakingRoom m) s k = ∥∥₁_map k (λ h. h.0.spare)

never : IsProp ⊥
never a = absurd a

free_prop : (s : State) (b : ℕ) → IsProp (Free s b)
free_prop s b x y = λ i. record { real = le_prop x.real y.real i; below = le_prop x.below y.below i; other = λ e. never (x.other e) (y.other e) i }

module _ (s : State) (w : Sound s) (b : ℕ) (t : State) (o : Opened s b t) where
  pub opened_keeps : (p q : Phase) → MayOpen p s b → PhaseAfter p s b q → ∥ Keeps p s ∥₁ → ∥ Keeps q t ∥₁
  opened_keeps p AtRest may after k = ∣ (after.0, open_other s w b may.0 t o after.0 after.1 after.2) ∣₁
  opened_keeps AtRest (MakingRoom m) may after k =
      ∣ (subst (λ n. Making n t) (sym after.1) (open_first s w b may.0 t o), omega (arith, after.1, may.1)) ∣₁
  opened_keeps (MakingRoom n) (MakingRoom m) may after k =
      ∥∥₁_map k (λ h. (subst (λ n. Making n t) (sym after.1) (open_again s w b may.0 t o n h.0 (full may.1)), omega (arith, after.1, h.1)))
    where
      full : Another s b ⊎ (s.used ≡ s.per) → s.used ≡ s.per
      full (inl a) = absurd (a.2 (after.0 a.0 a.1))
      full (inr e) = e

  few : (m : ℕ) → old t m ≤ s.count
  few m = omega (arith, o.count, tally_le (λ k. leb (t.number k) m) t.count)

  pub opened_less : (p q : Phase) → MayOpen p s b → PhaseAfter p s b q → (g : ℕ) → g ≤ 4 → s.per < s.used + g → work q t g < work p s g
  opened_less AtRest AtRest may after g l h = let u = o.used in let p = o.per in let v = w.wide in grind (arith, nat_tests)
  opened_less (MakingRoom n) AtRest may after g l h = let u = o.used in let p = o.per in let v = w.wide in grind (arith, nat_tests)
  opened_less AtRest (MakingRoom m) may after g l h = let u = o.used in let p = o.per in let v = w.wide in let f = few m in grind (arith, nat_tests)
  opened_less (MakingRoom n) (MakingRoom m) may after g l h =
      let e : old t m ≡ old s n = same_old s w b may.0 t o m ∙ ap (old s) after.1 in
      let u = o.used in let p = o.per in let v = w.wide in grind (arith, nat_tests)

  pub opened_numbers : (p q : Phase) → MayOpen p s b → PhaseAfter p s b q → (g : ℕ) → g ≤ 4 → s.per < s.used + g → t.last + ahead q t g ≤ s.last + ahead p s g
  opened_numbers AtRest AtRest may after g l h = let u = o.used in let p = o.per in let v = w.wide in let n = o.last in grind (arith, nat_tests)
  opened_numbers (MakingRoom n) AtRest may after g l h = let u = o.used in let p = o.per in let v = w.wide in let n = o.last in grind (arith, nat_tests)
  opened_numbers AtRest (MakingRoom m) may after g l h = let n = o.last in let f = few m in grind (arith, nat_tests)
  opened_numbers (MakingRoom n) (MakingRoom m) may after g l h =
      omega (arith, o.last, same_old s w b may.0 t o m, ap (old s) after.1)

-- a key is copied only while room is made
pub copies_making : (p : Phase) (s : State) (i f : ℕ) → MayCopy p s i f → p ≡ AtRest → ⊥
copies_making AtRest s i f may e = may
copies_making (MakingRoom m) s i f may e = let z : ◌≡◌ {A = ℕ} 0 1 = cc in omega arith

pub copies_as : (p : Phase) (s : State) (i f : ℕ) → MayCopy p s i f → Copying s i f
copies_as AtRest s i f may = absurd may
copies_as (MakingRoom m) s i f may = may

module _ (s : State) (i f : ℕ) (t : State) (o : Copied s i f t) where
  pub copied_keeps : (p : Phase) → MayCopy p s i f → ∥ Keeps p s ∥₁ → ∥ Keeps p t ∥₁
  copied_keeps AtRest may k = absurd may
  copied_keeps (MakingRoom m) may k =
      ∥∥₁_map k
      (λ h. (
        copy_making m s h.0 i f may.lowest may.carries t o may.space (lowest_old m s h.0 i may.lowest may.one.0 may.one.1),
        h.1,
      ))

  fewer : (m : ℕ) → MayCopy (MakingRoom m) s i f → ∥ Keeps (MakingRoom m) s ∥₁ → suc (old t m) ≤ old s m
  fewer m may k =
      ∥∥₁_elim k le_prop
      (λ h. omega
      (arith, old_less m s h.0 i f may.lowest may.carries t o may.space (lowest_old m s h.0 i may.lowest may.one.0 may.one.1)))

  pub copied_less : (p : Phase) → MayCopy p s i f → ∥ Keeps p s ∥₁ → (g : ℕ) → work p t g < work p s g
  copied_less AtRest may k g = absurd may
  copied_less (MakingRoom m) may k g = let e = fewer m may k in grind (arith, nat_tests)

  pub copied_numbers : (p : Phase) → MayCopy p s i f → ∥ Keeps p s ∥₁ → (g : ℕ) → t.last + ahead p t g ≤ s.last + ahead p s g
  copied_numbers AtRest may k g = absurd may
  copied_numbers (MakingRoom m) may k g = omega (arith, fewer m may k, o.last)

  -- the floor that passes the block of the key frees it
  pub copied_frees : (p : Phase) → MayCopy p s i f → ∥ Keeps p s ∥₁ → Rises s i f → Free t (s.block i)
  copied_frees AtRest may k r = absurd may
  copied_frees (MakingRoom m) may k r =
      ∥∥₁_elim k (free_prop t (s.block i))
      (λ h. freed m s h.0 i f may.lowest may.carries t o may.space (lowest_old m s h.0 i may.lowest may.one.0 may.one.1) r)
