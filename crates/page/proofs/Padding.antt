-- Names as values.
use Rattle.std.proofs.Common.{◌≡◌, ℕ, List, ap₂}
use Rattle.page.specs.declared.names.Name.{Name}

-- names of one length with the same bytes are one
pub same_names : (m n : Name) → m.len ≡ n.len → m.bytes ≡ n.bytes → m ≡ n
same_names m n l b = ap₂ (λ (k : ℕ) (bs : List ℕ). record { len = k; bytes = bs }) l b
