-- The tables after a format.
use Rattle.std.specs.Prelude.{◌≡◌, ℕ, ◌≤◌, [], ◌∷◌, replicate, Some, None, Option}
use Rattle.planner.specs.Slots.{listed}
use Rattle.planner.specs.declared.head.Phase.TheVariants.{AtRest}
use Rattle.planner.specs.declared.tables.Tables.{Tables}

-- 4 to 16 blocks of 4 to 16 pages
pub record Sizes (per blocks : ℕ) : Type 0 where
  pub wide : 4 ≤ per
  pub slim : per ≤ 16
  pub tall : 4 ≤ blocks
  pub small : blocks ≤ 16

-- no key, and one page numbered 1 at the start of the first block, which goes on being written
pub record Formatted (p b : ℕ) (t : Tables) : Type 0 where
  pub sizes : Sizes p b
  pub per : t.per ≡ p
  pub blocks : t.blocks ≡ b
  pub bare : listed t.slots ≡ []
  pub high : t.high ≡ 1 ∷ replicate 15 0
  pub floor : t.floor ≡ 1
  pub last : t.last ≡ 1
  pub head : t.head ≡ Some (record { block = 0; used = 1 })
  pub rest : t.phase ≡ AtRest

abbrev pub Formats : ℕ → ℕ → Option Tables → Type 0
Formats per blocks None = Sizes per blocks → ⊥
Formats per blocks (Some t) = Formatted per blocks t
