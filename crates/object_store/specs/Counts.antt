-- How many keys a batch leaves, told from the keys before it and the changes alone.
use Rattle.std.specs.Prelude.{ℕ, ◌+◌, Bool, true, false, cond, not, ◌&&◌, ◌||◌, List, [], ◌∷◌, ◌++◌, length, filter}
use Rattle.std.specs.List.{list_all}
use Rattle.object.specs.declared.key.Key.{Key}
use Rattle.object_store.specs.declared.change.Change.{Change}
use Rattle.object_store.specs.declared.change.Change.TheVariants.{Set, Remove}
use Rattle.object_store.specs.Tables.{has_key, entry_of}
use Rattle.object_store.specs.Changes.{removes, sets_key}

-- no change of the batch removes the key's file
abbrev pub stays : List Change → Key → Bool
stays cs k = not (removes cs k.file)

-- how many of the keys stay
abbrev pub staying : List Change → List Key → ℕ
staying cs ks = length (filter (stays cs) ks)

-- the change brings a key that stays and is new: it is not among ks, and no earlier change sets it
abbrev pub brings : List Key → List Change → List Change → Change → Bool
brings ks all earlier (Set k v) = stays all k && not (has_key ks k) && not (sets_key earlier k)
brings ks all earlier (Remove f) = false

-- how many new keys the changes bring after the earlier ones
abbrev pub brought : List Key → List Change → List Change → List Change → ℕ
brought ks all earlier [] = 0
brought ks all earlier (c ∷ cs) = cond (brings ks all earlier c) 1 0 + brought ks all (earlier ++ c ∷ []) cs

-- the key that the change sets is removed again, or its file has an entry before or by the batch
abbrev pub stands : List Key → List Change → Change → Bool
stands ks all (Set k v) = removes all k.file || has_key ks (entry_of k) || sets_key all (entry_of k)
stands ks all (Remove f) = true

-- every key that the changes set stands so
abbrev pub all_stand : List Key → List Change → List Change → Bool
all_stand ks all cs = list_all (stands ks all) cs
