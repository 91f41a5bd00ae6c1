-- The loop that makes room.
use Rattle.std.proofs.Common.{◌≡◌, ℕ, ◌+◌, ◌<◌, ◌≤◌}
use Rattle.planner.specs.Steps.{state, ahead, SameKeys}
use Rattle.planner.specs.declared.head.Phase.TheVariants.{AtRest}
use Rattle.planner.specs.declared.tables.Tables.{Tables}

-- room is on the way from t, at u
pub record Going (t : Tables) (g : ℕ) (u : Tables) : Type 0 where
  pub keys : SameKeys t u
  pub numbers : u.last + ahead u.phase (state u) g ≤ t.last + ahead t.phase (state t) g
  pub start : u.phase ≡ AtRest → u.per < (state u).used + g → u ≡ t
