-- What comes next while room is made, and what a step does to the tables.
use Rattle.std.specs.Prelude.{◌≡◌, ℕ, ◌+◌, ◌*◌, ◌^◌, ◌<◌, ◌≤◌, cond, length, ◌⊎◌, ◌≢◌, nat_lt, slice_index_or}
use Rattle.object.specs.declared.key.Key.{Key}
use Rattle.planner.specs.State.{State, Free, Lowest, old}
use Rattle.planner.specs.Moves.{Carries}
use Rattle.planner.specs.Room.{Room}
use Rattle.planner.specs.Slots.{listed}
use Rattle.planner.specs.Shape.{shape, blank, spent_above}
use Rattle.planner.specs.declared.head.Phase.{Phase}
use Rattle.planner.specs.declared.head.Phase.TheVariants.{AtRest, MakingRoom}
use Rattle.planner.specs.declared.free.Spares.{Spares}
use Rattle.planner.specs.declared.free.Spares.TheVariants.{Nothing, One, More}
use Rattle.planner.specs.declared.steps.Step.{Step}
use Rattle.planner.specs.declared.steps.Step.TheVariants.{Ready, Open, Copy, Spent}
use Rattle.planner.specs.declared.tables.Tables.{Tables}

-- the state of the tables
abbrev pub state : Tables → State
state t = shape t.slots t.high t.per t.blocks t.floor t.last t.head

-- f is the lowest number that tells another key than this one
pub record LowestBut (t : Tables) (key : Key) (f : ℕ) : Type 0 where
  pub below : (k : ℕ) → k < length (listed t.slots) → ((slice_index_or (listed t.slots) k blank).key ≢ key) → f ≤ (state t).number k
  pub some : (k : ℕ) × (k < length (listed t.slots)) × ((slice_index_or (listed t.slots) k blank).key ≢ key) × (f ≡ (state t).number k)

-- another block is free too
abbrev pub Another : State → ℕ → Type 0
Another s b = (c : ℕ) × Free s c × (c ≢ b)

-- which blocks are free
abbrev pub SparesAre : State → Spares → Type 0
SparesAre s Nothing = (b : ℕ) → Free s b → ⊥
SparesAre s (One b) = Free s b × ((c : ℕ) → Free s c → c ≡ b)
SparesAre s (More b) = Free s b × Another s b

-- the free block b may be opened: at rest while numbers are left; while room is made, if another is free too or the head is full
abbrev pub OpensWhen : Phase → State → ℕ → Type 0
OpensWhen AtRest s b = s.last ≤ spent_above
OpensWhen (MakingRoom since) s b = Another s b ⊎ (s.used ≡ s.per)

abbrev pub MayOpen : Phase → State → ℕ → Type 0
MayOpen p s b = Free s b × OpensWhen p s b

-- the phase once the block b is opened: at rest if another block is free, else room is being made
abbrev pub PhaseAfter : Phase → State → ℕ → Phase → Type 0
PhaseAfter p s b AtRest = Another s b
PhaseAfter AtRest s b (MakingRoom since) = ((c : ℕ) → Free s c → c ≡ b) × (since ≡ s.last)
PhaseAfter (MakingRoom m) s b (MakingRoom since) = ((c : ℕ) → Free s c → c ≡ b) × (since ≡ m)

-- the key i may be copied with the floor f: it is the lowest key, at most one block is free, and none if the head is full; there
-- is a page left in the head for the copy, and a number
pub record Copying (s : State) (i f : ℕ) : Type 0 where
  pub lowest : Lowest s i
  pub carries : Carries s i f
  pub one : (x : ℕ) × ((b : ℕ) → Free s b → b ≡ x)
  pub none : s.used ≡ s.per → (b : ℕ) → Free s b → ⊥
  pub headed : s.head < s.blocks
  pub space : s.used < s.per
  pub number : s.last + 1 < 2 ^ 32

-- keys are copied only while room is made
abbrev pub MayCopy : Phase → State → ℕ → ℕ → Type 0
MayCopy AtRest s i f = ⊥
MayCopy (MakingRoom since) s i f = Copying s i f

-- at rest, with no number left to make room with
abbrev pub UsedUp : Phase → State → Type 0
UsedUp AtRest s = spent_above < s.last
UsedUp (MakingRoom since) s = ⊥

-- what comes next to make room for g pages
abbrev pub Next : Phase → State → ℕ → Step → Type 0
Next p s g Ready = Room s g
Next p s g (Open b) = MayOpen p s b × (s.per < s.used + g)
Next p s g (Copy i f) = MayCopy p s i f × (Room s g → ⊥)
Next p s g Spent = UsedUp p s × (s.per < s.used + g)

-- a copy, where there is a key
abbrev pub Turn : State → Step → Type 0
Turn s Ready = s.count ≡ 0
Turn s (Open b) = ⊥
Turn s (Copy i f) = Lowest s i × Carries s i f
Turn s Spent = ⊥

-- at most so many copies are still to come before there is room for g pages
abbrev pub ahead : Phase → State → ℕ → ℕ
ahead AtRest s g = cond (nat_lt s.per (s.used + g)) s.count 0
ahead (MakingRoom since) s g = old s since

-- at most so many steps
abbrev pub work : Phase → State → ℕ → ℕ
work AtRest s g = cond (nat_lt s.per (s.used + g)) (2 * s.count + 3) 0
work (MakingRoom since) s g = 1 + 2 * old s since + cond (nat_lt s.per (s.used + g)) 1 0

-- a step towards room for g pages, that uses up no more numbers than copies were to come
pub record Advances (t : Tables) (g : ℕ) (u : Tables) : Type 0 where
  pub less : work u.phase (state u) g < work t.phase (state t) g
  pub numbers : u.last + ahead u.phase (state u) g ≤ t.last + ahead t.phase (state t) g

-- the keys stay as they are, in their order, and so does the chip
pub record SameKeys (t u : Tables) : Type 0 where
  pub per : u.per ≡ t.per
  pub blocks : u.blocks ≡ t.blocks
  pub count : length (listed u.slots) ≡ length (listed t.slots)
  pub keys : (k : ℕ) → k < length (listed t.slots) → (slice_index_or (listed u.slots) k blank).key ≡ (slice_index_or (listed t.slots) k blank).key
