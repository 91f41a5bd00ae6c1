-- The working page that a caller lends.
use Rattle.std.specs.Prelude.{◌≡◌, List, ℕ, length, replicate}

-- bytes with every bit at 1
abbrev pub ones : ℕ → List ℕ
ones n = replicate n 255

-- a working page of 256 bytes comes back with every bit at 1, any other as it was
pub record Returned (before after : List ℕ) : Type 0 where
  pub page : length before ≡ 256 → after ≡ ones 256
  pub other : (length before ≡ 256 → ⊥) → after ≡ before

-- with a working page of 256 bytes the one holds, with any other the other
pub record Lent (work : List ℕ) (P Q : Type 0) : Type 0 where
  pub page : length work ≡ 256 → P
  pub other : (length work ≡ 256 → ⊥) → Q
