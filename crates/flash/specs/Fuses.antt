-- When a fuse cuts the power, and how much of the operation is done by then.
use Rattle.std.specs.Prelude.{ℕ, ◌-◌, min, Bool, false, cond, ◌==◌}
use Rattle.flash.specs.declared.fuse.Fuse.{Fuse}
use Rattle.flash.specs.declared.fuse.Fuse.TheVariants.{Intact, Set}

-- power goes in the next program or erase
abbrev pub blows_at : Fuse → Bool
blows_at Intact = false
blows_at (Set before leading) = before == 0

-- of n bytes, so many leading ones are final when the next program or erase is over
abbrev pub reach_of : Fuse → ℕ → ℕ
reach_of Intact n = n
reach_of (Set before leading) n = cond (before == 0) (min n leading) n

-- the fuse after the next program or erase: it blows once
abbrev pub burnt_of : Fuse → Fuse
burnt_of Intact = Intact
burnt_of (Set before leading) = cond (before == 0) Intact (Set (before - 1) leading)
