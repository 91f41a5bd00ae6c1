-- What a batch makes of the slots.
use Rattle.std.specs.Prelude.{◌≡◌, ℕ, ◌+◌, ◌<◌, ◌≤◌, ◌⊎◌, List, length, slice_index_or}
use Rattle.object.specs.declared.key.Key.{Key}
use Rattle.planner.specs.Order.{Rising}
use Rattle.planner.specs.Slots.{Holds, Put, Forgets}
use Rattle.planner.specs.declared.says.Says.{Says}
use Rattle.planner.specs.declared.says.Says.TheVariants.{Tells, Gone}
use Rattle.planner.specs.Order.{Slot}

-- the page speaks to the key: it tells it, or says that its file is gone
abbrev pub Speaks : Says → Key → Type 0
Speaks (Tells j) k = j ≡ k
Speaks (Gone file) k = k.file ≡ file

-- none of the pages from i on, below m, speaks to the key
abbrev pub Silent : List Says → ℕ → ℕ → Key → Type 0
Silent pages i m k = (j : ℕ) (d : Says) → i ≤ j → j < m → Speaks (slice_index_or pages j d) k → ⊥

-- the slot of a key that is told by the page j, where page 0 stands at that index of the block with that number
abbrev pub slot_at : ℕ → ℕ → ℕ → ℕ → Key → Slot
slot_at block index number j k = record { key = k; place = record { block = block; index = index + j }; number = number + j }

-- x is told by the page j, and no later page speaks to its key
pub record ByPage (pages : List Says) (block index number m : ℕ) (x : Slot) (j : ℕ) : Type 0 where
  pub real : j < m
  pub tells : (d : Says) → slice_index_or pages j d ≡ Tells x.key
  pub newest : Silent pages (j + 1) m x.key
  pub is : x ≡ slot_at block index number j x.key

-- the slots xs after the first m pages: a key that none of them speaks to is told as before, any other by the newest page that
-- speaks to it, if it tells it
pub record Written (xs : List Slot) (pages : List Says) (block index number m : ℕ) (ys : List Slot) : Type 0 where
  pub rising : Rising ys
  pub kept : (x : Slot) → Holds xs x → Silent pages 0 m x.key → Holds ys x
  pub told : (x : Slot) (j : ℕ) → ByPage pages block index number m x j → Holds ys x
  pub only : (x : Slot) → Holds ys x → (Holds xs x × Silent pages 0 m x.key) ⊎ ((j : ℕ) × ByPage pages block index number m x j)
  pub long : length ys ≤ length xs + m

-- the slots xs after one page
abbrev pub Said : List Slot → Says → ℕ → ℕ → ℕ → List Slot → Type 0
Said xs (Tells k) block index number ys = Put xs (record { key = k; place = record { block = block; index = index }; number = number }) ys
Said xs (Gone file) block index number ys = Forgets xs file ys
