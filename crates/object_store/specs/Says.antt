-- What each call of an object store answers, and what it leaves.
use Rattle.std.specs.Prelude.{◌≡◌, ℕ, true, false, cond, List, [], Ok, Err, Result, ◌==◌, ◌≢◌}
use Rattle.flash.specs.declared.fault.FlashFault.TheVariants.{Off, Range, Program, Erase}
use Rattle.object_store.specs.declared.change.Change.{Change}
use Rattle.object_store.specs.declared.fault.ObjectFault.{ObjectFault}
use Rattle.object_store.specs.declared.fault.ObjectFault.TheVariants.{WorkPage, Blocks, Flash, Empty, Damaged, Unfit, Full, Spent}
use Rattle.object_store.specs.Fit.{verdict}
use Rattle.object_store.specs.Objects.{Objects, after_batch}
use Rattle.object_store.specs.Shelf.{Shelf}
use Rattle.object_store.specs.States.{Ready, Lost, Unmounted, Cut}

-- what is told with power on; "off" without it
abbrev pub told : {A : Type 0} → Shelf → A → Result A ObjectFault
told s a = cond s.on (Ok a) (Err (Flash Off))

-- the answer with a working page of n bytes
abbrev pub paged : {A : Type 0} → ℕ → Result A ObjectFault → Result A ObjectFault
paged n r = cond (n == 256) r (Err WorkPage)

-- the answer to a batch while power lasts: the working page, the power, and then the verdict on its changes
abbrev pub answer : ℕ → Shelf → List Change → Result (Unit {0}) ObjectFault
answer n s cs = paged n (cond s.on (verdict s.objects s.limit s.unused s.spent cs) (Err (Flash Off)))

-- refused for this reason, with nothing changed
abbrev pub Refused : ℕ → Shelf → List Change → ObjectFault → Shelf → Type 0
Refused n s cs e t = (answer n s cs ≡ Err e) × (t ≡ s)

-- a batch: done, cut by power, or refused
abbrev pub Batches : ℕ → Shelf → List Change → Result (Unit {0}) ObjectFault → Shelf → Type 0
Batches n s cs (Ok _) t = (answer n s cs ≡ Ok tt) × Ready s (after_batch s.objects cs) t
Batches n s cs (Err (Flash (Program p))) t = (s.steady ≡ false) × (answer n s cs ≡ Ok tt) × Cut s cs t
Batches n s cs (Err (Flash (Erase b))) t = (s.steady ≡ false) × (answer n s cs ≡ Ok tt) × Cut s cs t
Batches n s cs (Err (Flash Off)) t = Refused n s cs (Flash Off) t
Batches n s cs (Err (Flash Range)) t = ⊥
Batches n s cs (Err WorkPage) t = Refused n s cs WorkPage t
Batches n s cs (Err Unfit) t = Refused n s cs Unfit t
Batches n s cs (Err Full) t = Refused n s cs Full t
Batches n s cs (Err Spent) t = Refused n s cs Spent t
Batches n s cs (Err Blocks) t = ⊥
Batches n s cs (Err Empty) t = ⊥
Batches n s cs (Err Damaged) t = ⊥

-- a format: an empty map; or cut by power; or refused for its size, with nothing changed
abbrev pub Formats : ℕ → Shelf → Result (Unit {0}) ObjectFault → Shelf → Type 0
Formats n s (Ok _) t = (n ≡ 256) × (s.sized ≡ true) × Ready s [] t
Formats n s (Err (Flash (Program p))) t = (s.steady ≡ false) × (n ≡ 256) × (s.sized ≡ true) × Lost s t
Formats n s (Err (Flash (Erase b))) t = (s.steady ≡ false) × (n ≡ 256) × (s.sized ≡ true) × Lost s t
Formats n s (Err (Flash Off)) t = ⊥
Formats n s (Err (Flash Range)) t = ⊥
Formats n s (Err WorkPage) t = (n ≢ 256) × (t ≡ s)
Formats n s (Err Blocks) t = (n ≡ 256) × (s.sized ≡ false) × (t ≡ s)
Formats n s (Err Empty) t = ⊥
Formats n s (Err Damaged) t = ⊥
Formats n s (Err Unfit) t = ⊥
Formats n s (Err Full) t = ⊥
Formats n s (Err Spent) t = ⊥

-- a mount: the map as it was, if it is one of those that mounting keeps; or cut by power; or refused for want of such a map
abbrev pub Mounts : (Objects → Type 0) → ℕ → Shelf → Result (Unit {0}) ObjectFault → Shelf → Type 0
Mounts keeps n s (Ok _) t = (n ≡ 256) × (s.sized ≡ true) × (s.mapped ≡ true) × keeps s.objects × Ready s s.objects t
Mounts keeps n s (Err (Flash (Program p))) t = (s.steady ≡ false) × (n ≡ 256) × (s.sized ≡ true) × Unmounted s t
Mounts keeps n s (Err (Flash (Erase b))) t = (s.steady ≡ false) × (n ≡ 256) × (s.sized ≡ true) × Unmounted s t
Mounts keeps n s (Err (Flash Off)) t = ⊥
Mounts keeps n s (Err (Flash Range)) t = ⊥
Mounts keeps n s (Err WorkPage) t = (n ≢ 256) × (t ≡ s)
Mounts keeps n s (Err Blocks) t = (n ≡ 256) × (s.sized ≡ false) × Unmounted s t
Mounts keeps n s (Err Empty) t = (n ≡ 256) × (s.sized ≡ true) × (s.mapped ≡ false) × Unmounted s t
Mounts keeps n s (Err Damaged) t = (n ≡ 256) × (s.sized ≡ true) × (s.mapped ≡ true → keeps s.objects → ⊥) × Unmounted s t
Mounts keeps n s (Err Unfit) t = ⊥
Mounts keeps n s (Err Full) t = ⊥
Mounts keeps n s (Err Spent) t = ⊥

-- a working page of another length than 256 stays as it was
abbrev pub Untouched : ℕ → List ℕ → List ℕ → Type 0
Untouched n before after = (n ≢ 256) → after ≡ before
