-- How far a group has come, by the headers of the pages that were taken, the newest first.
use Rattle.std.specs.Prelude.{◌≡◌, ℕ, zero, suc, ◌+◌, ◌<◌, ◌≤◌, List, [], ◌∷◌}
use Rattle.page.specs.declared.fields.Header.{Header}
use Rattle.replay.specs.declared.group.Group.{Group}
use Rattle.replay.specs.declared.group.Group.TheVariants.{Idle, Part, Whole}

-- the page is the next of a group of that size whose newest page is numbered `last`
pub record Follows (h : Header) (last next size : ℕ) : Type 0 where
  pub numbered : h.number ≡ last + 1
  pub indexed : h.index ≡ next
  pub sized : h.size ≡ size
  pub more : next < size

-- the newest k pages are the first k of a group of that size, with numbers one after another
abbrev pub Run : ℕ → ℕ → List Header → Type 0
Run zero size pages = ⊥
Run (suc k) size [] = ⊥
Run (suc zero) size (h ∷ pages) = (h.index ≡ 0) × (h.size ≡ size)
Run (suc (suc k)) size (h ∷ []) = ⊥
Run (suc (suc k)) size (h ∷ (g ∷ pages)) = (h.index ≡ suc k) × (h.size ≡ size) × (h.number ≡ g.number + 1) × Run (suc k) size (g ∷ pages)

-- the newest page is numbered so
abbrev pub NewestIs : ℕ → List Header → Type 0
NewestIs n [] = ⊥
NewestIs n (h ∷ pages) = n ≡ h.number

-- what the pages taken so far have made of the group
abbrev pub Gathers : List Header → Group → Type 0
Gathers pages Idle = (k size : ℕ) → k ≤ size → Run k size pages → ⊥
Gathers pages (Part last next size) = Run next size pages × (next < size) × NewestIs last pages
Gathers pages (Whole size) = Run size size pages

-- what a page begins, whatever came before it
abbrev pub Starts : Header → Group → Type 0
Starts h Idle = (h.index ≡ 0) → h.size ≡ 0
Starts h (Part last next size) = (h.index ≡ 0) × (h.size ≡ size) × (1 < size) × (next ≡ 1) × (last ≡ h.number)
Starts h (Whole size) = (h.index ≡ 0) × (h.size ≡ 1) × (size ≡ 1)
