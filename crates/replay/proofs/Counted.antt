-- Tables of the same keys are equally long.
use Rattle.std.proofs.Common.{◌≡◌, ℕ, zero, suc, ◌-◌, ◌<◌, ◌≤◌, List, length, get_or, sym, ap, ◌∙◌, arith}
use native.Mathlib.Decide.{dec_lt, ℕ_discrete}
use Rattle.object.specs.declared.key.Key.{Key}
use Rattle.object.specs.declared.slot.Slot.{Slot}
use Rattle.replay.specs.Log.{Log}
use Rattle.replay.specs.Slots.{slot_rank}
use Rattle.replay.specs.Telling.{KeysTold}
use Rattle.replay.proofs.Nothing.{blank}

module _ (C : Log) (Kind : Key → Type 0) (xs ys : List (Slot ℕ)) (a : KeysTold C Kind xs) (b : KeysTold C Kind ys) where
  stands : (i : ℕ) → i < length xs → (j : ℕ) × (j < length ys) × (get_or ys j blank ≡ get_or xs i blank)
  stands i h =
      let (k, v, p, t, kind, is) = a.each i blank h in
      let (j, l, there) = b.all k v p t kind in
      (j, l, there blank ∙ sym is)

  -- each key of xs stands in ys, no earlier
  later : (i : ℕ) → i < length xs → (j : ℕ) × (i ≤ j) × (j < length ys) × (get_or ys j blank ≡ get_or xs i blank)
  later zero h = let (j, l, is) = stands 0 h in (j, omega arith, l, is)
  later (suc i) h =
      let (j, le, l, is) = later i (omega arith) in
      let (n, m, also) = stands (suc i) h in
      let up : slot_rank (get_or xs i blank) < slot_rank (get_or xs (suc i) blank) = a.rising i (suc i) blank (omega arith) h in (
        n,
        elim (dec_lt j n) [
          | yes lt ↦ omega arith
          | no ge ↦ elim (ℕ_discrete n j) [
            | yes e ↦ absurd (omega (arith, up, ap slot_rank is, ap slot_rank also, ap (λ (x : ℕ). slot_rank (get_or ys x blank)) e))
            | no ne ↦ absurd (omega (arith, up, ap slot_rank is, ap slot_rank also, b.rising n j blank (below n j ge ne) l))
          ]
        ],
        m,
        also,
      )
    where
      below : (n j : ℕ) → (j < n → ⊥) → (n ≡ j → ⊥) → n < j
      below n j ge ne = omega arith

  pub no_longer : length xs ≤ length ys
  no_longer = elim (ℕ_discrete (length xs) 0) [
    | yes z ↦ omega arith
    | no some ↦ (let h : length xs - 1 < length xs = omega arith in let (j, le, l, is) = later (length xs - 1) h in omega arith)
  ]
