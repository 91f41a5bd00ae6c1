-- What a log of data pages tells, without an order of steps. A log is a predicate on pages: no sorting, no maximum.
use Rattle.std.specs.Prelude.{◌≡◌, ℕ, ◌+◌, ◌<◌, ◌≤◌, length, Ok}
use Rattle.flash.specs.Chip.{Chip, page}
use Rattle.object.specs.declared.key.Key.{Key}
use Rattle.object.specs.declared.value.Object.{Object}
use Rattle.object.specs.declared.value.Object.TheVariants as object
use Rattle.page.specs.declared.fields.Content.{Content}
use Rattle.page.specs.declared.fields.Content.TheVariants.{Note, Gone}
use Rattle.page.specs.declared.fields.Content.TheVariants as content
use Rattle.page.specs.declared.fields.Page.{Page}
use Rattle.page.specs.Decoded.{decoded}

-- a data page, decoded, with its place on the chip
pub record Logged : Type 0 where
  pub place : ℕ
  pub page : Page

abbrev pub Log : Type 1
Log = Logged → Type 0

-- the log of a chip
abbrev pub LogOf : Chip → Log
LogOf c p = (p.place < length c.pages) × (decoded (page c p.place) ≡ Ok p.page)

abbrev pub number_of : Logged → ℕ
number_of p = p.page.header.number

abbrev pub floor_of : Logged → ℕ
floor_of p = p.page.header.floor

abbrev pub index_of : Logged → ℕ
index_of p = p.page.header.index

abbrev pub size_of : Logged → ℕ
size_of p = p.page.header.size

-- the entry of a file, and its chunk with this index
abbrev pub entry_key : ℕ → Key
entry_key file = record { file = file; part = 0 }

abbrev pub chunk_key : ℕ → ℕ → Key
chunk_key file index = record { file = file; part = index + 1 }

-- a page of this file speaks to the slot: entries and gone pages to the entry, a chunk to its own
abbrev pub SpeaksBy : ℕ → Content → Key → Type 0
SpeaksBy file Note k = ⊥
SpeaksBy file (content.Entry e) k = k ≡ entry_key file
SpeaksBy file (content.Chunk c) k = k ≡ chunk_key file c.index
SpeaksBy file Gone k = k ≡ entry_key file

-- it gives the key that object
abbrev pub GivesBy : ℕ → Content → Key → Object → Type 0
GivesBy file Note k v = ⊥
GivesBy file (content.Entry e) k v = (k ≡ entry_key file) × (object.Entry e ≡ v)
GivesBy file (content.Chunk c) k v = (k ≡ chunk_key file c.index) × (object.Chunk c.bytes ≡ v)
GivesBy file Gone k v = ⊥

abbrev pub Speaks : Logged → Key → Type 0
Speaks p k = SpeaksBy p.page.header.file p.page.content k

abbrev pub Gives : Logged → Key → Object → Type 0
Gives p k v = GivesBy p.page.header.file p.page.content k v

-- q is the page with index k of the group of p
pub record Part (p : Logged) (k : ℕ) (q : Logged) : Type 0 where
  pub numbered : number_of q + index_of p ≡ number_of p + k
  pub indexed : index_of q ≡ k
  pub sized : size_of q ≡ size_of p

-- every page of the group of p is in the log
abbrev pub Complete : Log → Logged → Type 0
Complete L p = (k : ℕ) → k < size_of p → (q : Logged) × L q × Part p k q

-- the page counts, at the floor f
pub record Counts (L : Log) (f : ℕ) (p : Logged) : Type 0 where
  pub here : L p
  pub high : f ≤ number_of p
  pub whole : Complete L p

-- some page of C gives the key this object, and no page of C that speaks to the slot and is as new says otherwise
pub record Shown (C : Log) (k : Key) (v : Object) : Type 0 where
  pub by : Logged
  pub counted : C by
  pub gives : Gives by k v
  pub last : (q : Logged) → C q → Speaks q k → number_of by ≤ number_of q → Gives q k v

-- the key is shown, and so is the entry of its file
pub record Told (C : Log) (k : Key) (v : Object) : Type 0 where
  pub shown : Shown C k v
  pub entry : Object
  pub alive : Shown C (entry_key k.file) entry

-- the page with the highest number
pub record Top (L : Log) (t : Logged) : Type 0 where
  pub here : L t
  pub highest : (p : Logged) → L p → number_of p ≤ number_of t

-- what the whole log tells: the floor is that of the page with the highest number
pub record Tells (L : Log) (k : Key) (v : Object) : Type 0 where
  pub top : Logged
  pub is_top : Top L top
  pub told : Told (Counts L (floor_of top)) k v

-- no two pages have one number
abbrev pub Distinct : Log → Type 0
Distinct L = (p q : Logged) → L p → L q → number_of p ≡ number_of q → p ≡ q

-- the two logs tell the same objects under the same keys
abbrev pub Same : Log → Log → Type 0
Same L M = (k : Key) (v : Object) → (Tells L k v → Tells M k v) × (Tells M k v → Tells L k v)
