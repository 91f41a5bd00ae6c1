-- Room for a group of pages.
use Rattle.std.specs.Prelude.{◌≡◌, ℕ, ◌+◌, ◌<◌, ◌≤◌, ◌⊎◌}
use Rattle.planner.specs.State.{State, Free}

-- the head has g pages left, and a block is free unless there is no key, where the next batch's floor frees all but the head
pub record Room (s : State) (g : ℕ) : Type 0 where
  pub left : s.used + g ≤ s.per
  pub headed : s.head < s.blocks
  pub free : ((b : ℕ) × Free s b) ⊎ (s.count ≡ 0)
