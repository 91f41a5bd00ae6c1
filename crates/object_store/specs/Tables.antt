-- Records that each stand for one key, kept by rising key.
use Rattle.std.specs.Prelude.{ℕ, ◌+◌, ◌≤◌, Bool, cond, ◌&&◌, List, [], ◌∷◌, ◌==◌, nat_lt}
use Rattle.std.specs.List.{list_any}
use Rattle.object.specs.declared.key.Key.{Key}
use Rattle.object.specs.Rank.{key_rank}

-- two keys are the same
abbrev pub same_key : Key → Key → Bool
same_key j k = j.file == k.file && j.part == k.part

-- the key is among these
abbrev pub has_key : List Key → Key → Bool
has_key ks k = list_any (λ j. same_key j k) ks

-- one of these keys is of the file
abbrev pub has_file : List Key → ℕ → Bool
has_file ks f = list_any (λ k. k.file == f) ks

-- the key of the entry of a key's file
abbrev pub entry_of : Key → Key
entry_of k = record { file = k.file; part = 0 }

-- the records with x in its place: in place of the one with its key, or before the first with a higher key
abbrev pub put_in : {R : Type 0} → (R → Key) → List R → R → List R
put_in key [] x = x ∷ []
put_in key (y ∷ ys) x =
    cond (nat_lt (key_rank (key y)) (key_rank (key x))) (y ∷ put_in key ys x) (cond (same_key (key y) (key x)) (x ∷ ys) (x ∷ (y ∷ ys)))

-- the keys rise from the rank r on, and no part is over 32
abbrev pub RisingFrom : ℕ → List Key → Type 0
RisingFrom r [] = Unit {0}
RisingFrom r (k ∷ ks) = (r ≤ key_rank k) × (k.part ≤ 32) × RisingFrom (key_rank k + 1) ks

-- the keys rise, and each is of a file numbered 1 or more
abbrev pub Rising : List Key → Type 0
Rising ks = RisingFrom 256 ks
