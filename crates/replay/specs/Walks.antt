-- A walk over pages by rising number, slot by slot.
use Rattle.std.specs.Prelude.{◌≡◌, ℕ, suc, ◌≤◌, ◌⊎◌, List, [], ◌∷◌}
use Rattle.object.specs.declared.key.Key.{Key}
use Rattle.object.specs.declared.value.Object.{Object}
use Rattle.page.specs.declared.fields.Content.{Content}
use Rattle.page.specs.declared.fields.Content.TheVariants.{Note, Gone}
use Rattle.page.specs.declared.fields.Content.TheVariants as content
use Rattle.replay.specs.Log.{Log, Logged, number_of, entry_key, chunk_key, Speaks, Gives, Shown}
use Rattle.replay.specs.Maps.{Map}

-- the slots after one page: the slot that it speaks to holds what it gives, and the others what they held; the chunks of a file with no entry stay
abbrev pub Step : Map → Logged → Map
Step m p k v = Gives p k v ⊎ ((Speaks p k → ⊥) × m k v)

-- the slots after some pages, in order
abbrev pub Steps : Map → List Logged → Map
Steps m [] = m
Steps m (p ∷ ps) = Steps (Step m p) ps

-- nothing stands under any key
abbrev pub Nothing : Map
Nothing k v = ⊥

-- the numbers rise, and the first is at least n
abbrev pub Rising : ℕ → List Logged → Type 0
Rising n [] = Unit {0}
Rising n (p ∷ ps) = (n ≤ number_of p) × Rising (suc (number_of p)) ps

-- C and one page more
abbrev pub With : Log → Logged → Log
With C p q = C q ⊎ (q ≡ p)

-- a page of this file makes sense after C: a chunk is of a file that has an entry; an entry is of such a file, or of one with no chunk left over
abbrev pub FitBy : Log → ℕ → Content → Type 0
FitBy C file Note = Unit {0}
FitBy C file (content.Entry e) = ((n : Object) × Shown C (entry_key file) n) ⊎ ((i : ℕ) (v : Object) → Shown C (chunk_key file i) v → ⊥)
FitBy C file (content.Chunk c) = (n : Object) × Shown C (entry_key file) n
FitBy C file Gone = Unit {0}

-- the page makes sense after C
abbrev pub Fit : Log → Logged → Type 0
Fit C p = FitBy C p.page.header.file p.page.content

-- each page makes sense after C and the pages before it
abbrev pub Fits : Log → List Logged → Type 0
Fits C [] = Unit {0}
Fits C (p ∷ ps) = Fit C p × Fits (With C p) ps

-- the newest page of C that speaks to the slot
pub record Newest (C : Log) (k : Key) (p : Logged) : Type 0 where
  pub counted : C p
  pub speaks : Speaks p k
  pub newest : (q : Logged) → C q → Speaks q k → number_of q ≤ number_of p
