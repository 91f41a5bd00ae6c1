-- Mounting again finds sound tables.
use Rattle.std.proofs.Common.{◌≡◌, ℕ, ◌<◌, ap, ◌∙◌, arith}
use native.Mathlib.Decide.{dec_lt}
use Rattle.planner.specs.State.{State, Sound, Free}
use Rattle.planner.specs.Mounts.{Mounted, MountKeeps, MountPast}
use Rattle.planner.proofs.Unmoved.{unmoved_sound}

module _ (s m : State) (w : Sound s) (o : Mounted s m) where
  back : (k : ℕ) → k < m.count → k < s.count
  back k l = omega (arith, o.count)

  same_high : (k : ℕ) → k < s.count → m.high (m.block k) ≡ s.high (s.block k)
  same_high k l = ap m.high (o.kept k l).block ∙ o.high (s.block k) (w.inside k l) (omega (arith, w.held k l, w.counted k l))

  inside : (k : ℕ) → k < m.count → m.block k < m.blocks
  inside k l = omega (arith, (o.kept k (back k l)).block, w.inside k (back k l), o.blocks)

  pub mount_sound : Sound m
  mount_sound =
      unmoved_sound s m w (record { per = o.per; blocks = o.blocks; count = o.count; kept = o.kept; high = same_high; floor = o.floor })
      (λ c l. omega (arith, o.less c (omega (arith, o.blocks)), w.highest c (omega (arith, o.blocks)), o.last))
      (omega (arith, o.floor, o.last, w.low))
      (omega (arith, o.used))
      (λ h. o.used)
      (λ k l e. absurd (omega (arith, inside k l, o.head)))
      (λ h l. absurd (omega (arith, o.head)))

  pub mount_free : (b : ℕ) → b < s.blocks → s.high b < s.floor → Free m b
  mount_free b l h = record { real = omega (arith, o.blocks); below = omega (arith, o.less b l, o.floor); other = λ e. omega (arith, o.head, o.blocks) }

pub mount_keeps : MountKeeps
mount_keeps s m w o = (mount_sound s m w o, λ b f. mount_free s m w o b f.real f.below)

pub mount_past : MountPast
mount_past s m r o =
    (mount_sound r.opened m r.sound o, mount_free r.opened m r.sound o s.head real (omega (arith, r.empty, r.sound.some)))
  where
    real : s.head < r.opened.blocks
    real =
        elim (dec_lt s.head r.opened.blocks) [
          | yes h ↦ h
          | no h ↦ absurd (omega (arith, r.bare, r.sound.wide, r.sound.headless (omega (arith, r.head))))
        ]
