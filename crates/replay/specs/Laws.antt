-- What replay does not depend on.
use Rattle.std.specs.Prelude.{◌≡◌, ℕ, ◌<◌, ◌≤◌, true, ◌⊎◌, length}
use Rattle.flash.specs.Chip.{Chip, InBlock, page}
use Rattle.page.specs.Code.{is_data}
use Rattle.replay.specs.Log.{LogOf, Logged, number_of, floor_of, index_of, size_of, Part, Counts, Top, Distinct, Same}

-- the place holds a data page
abbrev pub DataAt : Chip → ℕ → Type 0
DataAt c q = (q < length c.pages) × (is_data (page c q) ≡ true)

-- each data page of c is one of d, with the same bytes
abbrev pub DataWithin : Chip → Chip → Type 0
DataWithin c d = (q : ℕ) → DataAt c q → DataAt d q × (page d q ≡ page c q)

-- replay depends on nothing but the data pages: what is erased or spoilt may be otherwise
abbrev pub OnlyDataTells : Type 0
OnlyDataTells = (c d : Chip) → DataWithin c d → DataWithin d c → Same (LogOf c) (LogOf d)

-- a group with a page at or above f does not reach into the block b from outside, nor out of it
abbrev pub Apart : Chip → ℕ → ℕ → Type 0
Apart c b f = (p q : Logged) (k : ℕ) → LogOf c p → LogOf c q → f ≤ number_of p → Part p k q → InBlock c b q.place → InBlock c b p.place

-- d is c less some data pages of the block b
pub record Less (c d : Chip) (b : ℕ) : Type 0 where
  pub only : DataWithin d c
  pub rest : (q : ℕ) → (InBlock c b q → ⊥) → DataAt c q → DataAt d q

-- taking away any pages of a block whose pages all lie below the floor changes nothing that is told
abbrev pub FreeBlockTellsNothing : Type 0
FreeBlockTellsNothing = (c d : Chip) (b : ℕ) (t : Logged) → Distinct (LogOf c) → Top (LogOf c) t
    → ((p : Logged) → LogOf c p → InBlock c b p.place → number_of p < floor_of t) → Apart c b (floor_of t) → Less c d b
    → Top (LogOf d) t × Same (LogOf c) (LogOf d)

-- of a page with index 0 in a group of two and a later page alone in its group, only the later one counts
abbrev pub CutShortGroupDoesNotCount : Type 0
CutShortGroupDoesNotCount = (p q : Logged) (f : ℕ) → number_of p ≡ 50 → index_of p ≡ 0 → size_of p ≡ 2 → number_of q ≡ 51 → index_of q ≡ 0 → size_of q ≡ 1 → f ≤ 50
    → Counts (λ x. (x ≡ p) ⊎ (x ≡ q)) f q × (Counts (λ x. (x ≡ p) ⊎ (x ≡ q)) f p → ⊥)
