-- Which batches are refused, and why.
use Rattle.std.specs.Prelude.{◌≡◌, ℕ, ◌≤◌, Bool, true, cond, ◌&&◌, ◌||◌, List, length, Ok, Err, Result, ◌==◌, nat_le, nat_lt}
use Rattle.std.specs.List.{list_all}
use Rattle.object.specs.declared.key.Key.{Key}
use Rattle.object_store.specs.declared.change.Change.{Change}
use Rattle.object_store.specs.declared.fault.ObjectFault.{ObjectFault}
use Rattle.object_store.specs.declared.fault.ObjectFault.TheVariants.{Unfit, Full, Spent}
use Rattle.object_store.specs.Tables.{has_key, has_file, entry_of, Rising}
use Rattle.object_store.specs.Changes.{file_of, change_fits, in_order}
use Rattle.object_store.specs.Objects.{Objects, keys_of, after_batch}

-- a batch has one to four changes
abbrev pub count_fits : List Change → Bool
count_fits cs = nat_le 1 (length cs) && nat_le (length cs) 4

-- a file number that may be spoken of: one in the map, or the one told as unused
abbrev pub known : List Key → ℕ → ℕ → Bool
known ks unused f = has_file ks f || f == unused

-- every change has its fields in range and speaks of a known file
abbrev pub each_fits : List Key → ℕ → List Change → Bool
each_fits ks unused cs = list_all (λ c. change_fits c && known ks unused (file_of c)) cs

-- each of the keys has its file's entry among all
abbrev pub entered : List Key → List Key → Bool
entered all ks = list_all (λ k. has_key all (entry_of k)) ks

-- no chunk is without an entry
abbrev pub rooted : List Key → Bool
rooted ks = entered ks ks

-- the batch can be made of this map
abbrev pub fit : Objects → ℕ → List Change → Bool
fit os unused cs = count_fits cs && each_fits (keys_of os) unused cs && in_order cs && rooted (keys_of (after_batch os cs))

-- the answer to a batch, its grounds tried in order: it is unfit, it would leave more keys than the limit, numbers are spent
abbrev pub verdict : Objects → ℕ → ℕ → Bool → List Change → Result (Unit {0}) ObjectFault
verdict os limit unused spent cs =
    cond (fit os unused cs) (cond (nat_lt limit (length (after_batch os cs))) (Err Full) (cond spent (Err Spent) (Ok tt))) (Err Unfit)

-- the verdict on every map with these keys, where they are at most 208, rise, and have their entries
abbrev pub Judges : List Key → ℕ → ℕ → Bool → List Change → Result (Unit {0}) ObjectFault → Type 0
Judges ks limit unused spent cs r =
    length ks ≤ 208 → Rising ks → rooted ks ≡ true → (os : Objects) → keys_of os ≡ ks → r ≡ verdict os limit unused spent cs
