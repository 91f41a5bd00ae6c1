-- How far a fuse lets an operation come.
use Rattle.std.proofs.Common.{◌≡◌, ℕ, ◌≤◌, min, Bool, true, false, cond, not, eqb, refl, ap, arith}
use Rattle.flash.specs.declared.fuse.Fuse.{Fuse}
use Rattle.flash.specs.declared.fuse.Fuse.TheVariants.{Intact, Set}
use Rattle.flash.specs.Fuses.{blows_at, reach_of}

pub reach_within : (f : Fuse) (n : ℕ) → reach_of f n ≤ n
reach_within Intact n = omega arith
reach_within (Set before leading) n = at (eqb before 0)
  where
    at : (b : Bool) → cond b (min n leading) n ≤ n
    at true = omega arith
    at false = omega arith

-- where the fuse does not blow, the operation ends
pub reach_whole : (f : Fuse) (n : ℕ) → blows_at f ≡ false → reach_of f n ≡ n
reach_whole Intact n e = refl
reach_whole (Set before leading) n e = ap (λ b. cond b (min n leading) n) e

pub power_left : (b on : Bool) → on ≡ true → cond b false on ≡ not b
power_left true on e = refl
power_left false on e = e
