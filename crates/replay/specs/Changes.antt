-- How one log comes from another, by an erase or by pages more.
use Rattle.std.specs.Prelude.{◌≡◌, ℕ, ◌+◌, ◌*◌, ◌<◌, ◌≤◌, ◌⊎◌, List}
use mathlib.Core.List.{Memᴰ}
use Rattle.object.specs.declared.key.Key.{Key}
use Rattle.object.specs.declared.value.Object.{Object}
use Rattle.replay.specs.Log.{Log, Logged, number_of, floor_of, index_of, size_of, Gives, Part, Counts, Shown, Told, Top}

-- the log of a list of pages, in any order: the page is in it
abbrev pub On : List Logged → Log
On xs p = Memᴰ p xs

-- with n pages to a block, the page lies in the block b
abbrev pub Within : ℕ → ℕ → Logged → Type 0
Within n b p = (n * b ≤ p.place) × (p.place < n * b + n)

-- M is L less some pages of the block b: what an erase of it leaves, torn or not
pub record Fewer (L M : Log) (n b : ℕ) : Type 0 where
  pub only : (p : Logged) → M p → L p
  pub rest : (p : Logged) → L p → (Within n b p → ⊥) → M p

-- a group with a page at or above f that lies outside the block b has no page in it
abbrev pub Grouped : Log → ℕ → ℕ → ℕ → Type 0
Grouped L n b f = (p q : Logged) (k : ℕ) → L p → L q → f ≤ number_of p → Part p k q → Within n b q → Within n b p

-- M is L with the pages of G
pub record Added (L G M : Log) : Type 0 where
  pub only : (p : Logged) → M p → L p ⊎ G p
  pub old : (p : Logged) → L p → M p
  pub new : (p : Logged) → G p → M p

-- the pages of G are of one group of that size, whose numbers begin at base, above all of L
pub record Group (L G : Log) (base size : ℕ) : Type 0 where
  pub below : (p : Logged) → L p → number_of p < base
  pub numbered : (p : Logged) → G p → number_of p ≡ base + index_of p
  pub sized : (p : Logged) → G p → size_of p ≡ size

-- the key is shown by a page at or above g
pub record High (C : Log) (g : ℕ) (k : Key) (v : Object) : Type 0 where
  pub shown : Shown C k v
  pub high : g ≤ number_of shown.by

-- the floor may rise from f to g: each key that is told at f is shown by a page at or above g
pub record Rises (L : Log) (f g : ℕ) : Type 0 where
  pub up : f ≤ g
  pub kept : (k : Key) (v : Object) → Told (Counts L f) k v → High (Counts L f) g k v

-- the page says again what is told
pub record Echo (C : Log) (p : Logged) : Type 0 where
  pub key : Key
  pub object : Object
  pub gives : Gives p key object
  pub told : Told C key object

-- L less the whole block b
abbrev pub Without : Log → ℕ → ℕ → Log
Without L n b p = L p × (Within n b p → ⊥)

-- the block b is scratch, where t is the top page of the rest: each of its pages at or above the floor of t carries that floor and says what the rest tells
pub record Scratch (L : Log) (n b : ℕ) (t : Logged) : Type 0 where
  pub top : Top (Without L n b) t
  pub sound : floor_of t ≤ number_of t
  pub grouped : Grouped L n b (floor_of t)
  pub floors : (p : Logged) → L p → Within n b p → floor_of t ≤ number_of p → floor_of p ≡ floor_of t
  pub echoes : (p : Logged) → L p → Within n b p → floor_of t ≤ number_of p → Echo (Counts (Without L n b) (floor_of t)) p
