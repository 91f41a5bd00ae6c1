-- Slots by their index.
use Rattle.std.proofs.Common.{◌≡◌, ℕ, ◌<◌, List, length, get_or, ap, ◌∙◌, arith}
use mathlib.Core.Logic.{∥∥₁_elim}
use native.Mathlib.Bridge.{le_prop}
use native.Mathlib.Decide.{ℕ_discrete, dec_lt}
use Rattle.std.proofs.lemmas.List.{get_or_default}
use Rattle.object.specs.Rank.{key_rank}
use Rattle.planner.specs.Order.{Slot, ranked, Rising, Narrow}
use Rattle.planner.specs.Shape.{blank}
use Rattle.planner.specs.Slots.{listed, Holds}
use Rattle.planner.specs.declared.slots.Slots.{Slots}

abbrev pub Among : List Slot → Slot → Type 0
Among xs x = (i : ℕ) × (i < length xs) × (get_or xs i blank ≡ x)

pub holds_among : (xs : List Slot) (x : Slot) → Holds xs x → Among xs x
holds_among xs x h = (h.0, h.1, h.2 blank)

pub among_holds : (xs : List Slot) (x : Slot) → Among xs x → Holds xs x
among_holds xs x h = (h.0, h.1, λ d. get_or_default xs h.0 d blank h.1 ∙ h.2)

-- the slots of a table rise, and their parts are bytes
pub the_rising : (s : Slots) → Rising (listed s)
the_rising s = s.table.rising

pub the_narrow : (s : Slots) → Narrow (listed s)
the_narrow s = ∥∥₁_elim s.narrow (λ a b i. λ j d l. le_prop (a j d l) (b j d l) i) (λ r. r)

-- one key, one place
pub one_place : (xs : List Slot) → Rising xs → (i j : ℕ) → i < length xs → j < length xs → (get_or xs i blank).key ≡ (get_or xs j blank).key → i ≡ j
one_place xs r i j l m e =
    let q : ranked (get_or xs i blank) ≡ ranked (get_or xs j blank) = ap key_rank e in
    elim (ℕ_discrete i j) [
      | yes same ↦ same
      | no ne ↦ elim (dec_lt i j) [ yes lt ↦ absurd (omega (arith, q, r i j blank lt m)) | no ge ↦ absurd (omega (arith, q, r j i blank (less i j ge ne) l)) ]
    ]
  where
    less : (i j : ℕ) → (i < j → ⊥) → (i ≡ j → ⊥) → j < i
    less i j ge ne = omega arith

-- one rank, one key
pub one_rank : (x y : Slot) → x.key.part < 256 → y.key.part < 256 → ranked x ≡ ranked y → x.key ≡ y.key
one_rank x y a b e =
    let f : x.key.file ≡ y.key.file = omega arith in
    let p : x.key.part ≡ y.key.part = omega arith in
    λ i. record { file = f i; part = p i }
