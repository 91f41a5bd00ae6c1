-- What a log tells once power was lost, and how a walk finds it. A log here is that of a list of pages, in any order.
use Rattle.std.specs.Prelude.{◌≡◌, ℕ, ◌<◌, ◌≤◌, List, [], ◌∷◌, ◌≢◌}
use Rattle.object.specs.declared.key.Key.{Key}
use Rattle.object.specs.declared.value.Object.{Object}
use Rattle.replay.specs.Log.{Logged, number_of, floor_of, index_of, size_of, Gives, Counts, Shown, Told, Top, Tells, Distinct, Same}
use Rattle.replay.specs.Changes.{On, Fewer, Added, Group, High, Rises, Echo, Scratch}
use Rattle.replay.specs.Maps.{Puts}
use Rattle.replay.specs.Walks.{Steps, Nothing, Rising, Fits, Newest}

-- what is shown is what the newest counted page of the slot says
abbrev pub NewestTells : Type 0
NewestTells = (xs : List Logged) (f : ℕ) (k : Key) (v : Object) → Distinct (On xs)
    → (Shown (Counts (On xs) f) k v → (p : Logged) × Newest (Counts (On xs) f) k p × Gives p k v)
    × ((p : Logged) × Newest (Counts (On xs) f) k p × Gives p k v → Shown (Counts (On xs) f) k v)

-- a walk over the counted pages by rising number, from nothing, ends with what is shown
abbrev pub Walk : Type 0
Walk = (xs cs : List Logged) (f : ℕ) → ((p : Logged) → (On cs p → Counts (On xs) f p) × (Counts (On xs) f p → On cs p)) → Rising 0 cs
    → (k : Key) (v : Object) → (Shown (Counts (On xs) f) k v → Steps Nothing cs k v) × (Steps Nothing cs k v → Shown (Counts (On xs) f) k v)

-- a group that lacks a page changes nothing told, also with a higher floor below which no told key is shown
abbrev pub UnfinishedGroup : Type 0
UnfinishedGroup = (xs gs ys : List Logged) (t u : Logged) (base size j : ℕ) → Distinct (On xs) → Distinct (On ys) → Top (On xs) t → Top (On ys) u
    → Added (On xs) (On gs) (On ys) → Group (On xs) (On gs) base size → Rises (On xs) (floor_of t) (floor_of u)
    → j < size → ((q : Logged) → On gs q → index_of q ≢ j) → Same (On xs) (On ys)

-- a complete group puts its pages into the map, in order
abbrev pub FinishedGroup : Type 0
FinishedGroup = (xs gs ys : List Logged) (t u : Logged) (base size : ℕ) → Distinct (On xs) → Distinct (On ys) → Top (On xs) t → Top (On ys) u
    → Added (On xs) (On gs) (On ys) → Group (On xs) (On gs) base size → Rises (On xs) (floor_of t) (floor_of u) → floor_of u ≤ base
    → ((k : ℕ) → k < size → (q : Logged) × On gs q × (index_of q ≡ k)) → Rising base gs → Fits (Counts (On xs) (floor_of u)) gs
    → (k : Key) (v : Object) → (Tells (On ys) k v → Puts (Tells (On xs)) gs k v) × (Puts (Tells (On xs)) gs k v → Tells (On ys) k v)

-- a copy, a group of one above all others that says again what is told, changes nothing told; its floor may rise to any number up to its own,
-- where each other key that is told is shown by a page at or above that floor
abbrev pub Copy : Type 0
Copy = (xs ys : List Logged) (t c : Logged) → Distinct (On xs) → Distinct (On ys) → Top (On xs) t
    → Added (On xs) (On (c ∷ [])) (On ys) → ((p : Logged) → On xs p → number_of p < number_of c) → index_of c ≡ 0 → size_of c ≡ 1
    → (e : Echo (Counts (On xs) (floor_of t)) c) → floor_of t ≤ floor_of c → floor_of c ≤ number_of c
    → ((k : Key) (v : Object) → (k ≢ e.key) → Told (Counts (On xs) (floor_of t)) k v → High (Counts (On xs) (floor_of t)) (floor_of c) k v)
    → Same (On xs) (On ys)

-- any erase of a scratch block, torn or not, changes nothing told
abbrev pub ScratchErase : Type 0
ScratchErase = (xs ys : List Logged) (n b : ℕ) (t : Logged) → Distinct (On xs) → Scratch (On xs) n b t → Fewer (On xs) (On ys) n b → Same (On xs) (On ys)
