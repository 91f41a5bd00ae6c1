use Rattle.std.proofs.Common.{◌≡◌, ℕ, ◌+◌, ◌^◌, ◌<◌, ◌≤◌, length, get_or, set, Some, sym, refl, ap, ◌∙◌, arith, length-set}
use native.Mathlib.Decide.{ℕ_discrete}
use Rattle.std.proofs.lemmas.List.{get_or-set_same}
use Rattle.object.specs.declared.key.Key.{Key}
use Rattle.planner.specs.State.{State, Sound, Lowest}
use Rattle.planner.specs.Moves.{Copied}
use Rattle.planner.specs.Shape.{shape, blank, head_of, used_of, Keeps}
use Rattle.planner.specs.Slots.{listed}
use Rattle.planner.specs.Steps.{state, Copying, MayCopy}
use Rattle.planner.specs.declared.head.Head.{Head}
use Rattle.planner.specs.Order.{Slot}
use Rattle.planner.specs.declared.slots.Slots.{Slots}
use Rattle.planner.specs.declared.tables.Tables.{Tables}
use Rattle.planner.proofs.Writing.{copy_writes, moved_other}
use Rattle.planner.proofs.Copying.{copy_sound}
use Rattle.planner.proofs.Phases.{keeps_spare, copies_as, copied_keeps, copied_less, copied_numbers, copied_frees}
use Rattle.planner.proofs.Unique.{the_sound}
use Rattle.planner.proofs.tables.Tables.copied.Goals as goal

going : (t : Tables) (i f : ℕ) → MayCopy t.phase (state t) i f → Copying (state t) i f
going t i f may = copies_as t.phase (state t) i f may

pub unreachable-requires : goal.unreachable-requires
unreachable-requires c =
    let t = c.args.self.now in
    let l : head_of t.blocks t.head < t.blocks = (going t c.args.slot c.args.floor c.requires).headed in
    omega (arith, l, ap (head_of t.blocks) c.in_default.is)

pub overflow_add-self : goal.overflow_add-self
overflow_add-self c =
    let t = c.args.self.now in
    let l : t.last + 1 < 2 ^ 32 = (going t c.args.slot c.args.floor c.requires).number in omega arith

module _ (t : Tables) (moved : Slots) (h : Head) (i f : ℕ) (is : t.head ≡ Some h) (may : MayCopy t.phase (state t) i f)
    (items : listed moved ≡ set (listed t.slots) i (record { key = (get_or (listed t.slots) i blank).key; place = record { block = h.block; index = h.used }; number = t.last + 1 })) where
  abbrev key : Key
  key = (get_or (listed t.slots) i blank).key

  -- the state after
  abbrev after : State
  after =
      shape moved (set t.high h.block (t.last + 1)) t.per t.blocks f (t.last + 1) (Some (record { block = h.block; used = h.used + 1 }))

  lowest : Lowest (state t) i
  lowest = (going t i f may).lowest

  inside : h.block < 16
  inside = omega (arith, ap (head_of t.blocks) is, (going t i f may).headed, t.small)

  real : i < length (listed t.slots)
  real = lowest.real

  kept : length (listed moved) ≡ length (listed t.slots)
  kept = ap length items ∙ length-set (listed t.slots) i (record { key = key; place = record { block = h.block; index = h.used }; number = t.last + 1 })

  spaced : (state t).used < t.per
  spaced = (going t i f may).space

  writes : Copied (state t) i f after
  writes =
      copy_writes t.slots moved t.high t.per t.blocks t.floor t.last t.head h i f key is real (omega (arith, inside, t.tall)) items

  sound : Sound after
  sound = copy_sound (state t) (the_sound t) i f lowest (going t i f may).carries after writes (going t i f may).headed spaced

  within : h.used + 1 ≤ t.per
  within = omega (arith, ap (used_of t.per) is, spaced)

  keeps : ∥ Keeps t.phase after ∥₁
  keeps = copied_keeps (state t) i f after writes t.phase may t.spare

  same_key : (k : ℕ) → (get_or (listed moved) k blank).key ≡ (get_or (listed t.slots) k blank).key
  same_key k =
      elim (ℕ_discrete k i) [
        | yes e ↦
            ap (λ j. (get_or (listed moved) j blank).key) e ∙ ap (λ xs. (get_or xs i blank).key) items
            ∙ ap (λ (x : Slot). x.key) (get_or-set_same (listed t.slots) i (record { key = key; place = record { block = h.block; index = h.used }; number = t.last + 1 }) blank real)
            ∙ ap (λ j. (get_or (listed t.slots) j blank).key) (sym e)
        | no ne ↦
            ap (λ (x : Slot). x.key)
            (moved_other t.slots moved t.high t.per t.blocks t.floor t.last t.head h i f key is real (omega (arith, inside, t.tall)) items k ne)
      ]

pub bounds-self-head : goal.bounds-self-head
bounds-self-head c =
    let t = c.args.self.now in
    inside t c.move_to.new.self c.in-Some.head c.args.slot c.args.floor c.in-Some.is c.requires c.move_to.ensures

pub invariant_of-self : goal.invariant_of-self
invariant_of-self c =
    let t = c.args.self.now in
    let m = c.move_to.new.self in
    let h = c.in-Some.head in
    let i = c.args.slot in
    let f = c.args.floor in
    let e = c.move_to.ensures in
    record {
      tall = length-set t.high h.block (t.last + 1) ∙ t.tall;
      slim = t.slim;
      small = t.small;
      few = omega (arith, kept t m h i f c.in-Some.is c.requires e, t.few);
      within = within t m h i f c.in-Some.is c.requires e;
      sound = ∣ sound t m h i f c.in-Some.is c.requires e ∣₁;
      spare = keeps t m h i f c.in-Some.is c.requires e;
    }

pub returns : goal.returns
returns c =
    let t = c.args.self.now in
    let m = c.move_to.new.self in
    let h = c.in-Some.head in
    let i = c.args.slot in
    let f = c.args.floor in
    let e = c.move_to.ensures in
    let o = writes t m h i f c.in-Some.is c.requires e in
    let s = after t m h i f c.in-Some.is c.requires e in
    record {
      copied = o;
      keys = record { per = refl; blocks = refl; count = kept t m h i f c.in-Some.is c.requires e; keys = λ k l. same_key t m h i f c.in-Some.is c.requires e k };
      spare = keeps_spare t.phase s (keeps t m h i f c.in-Some.is c.requires e);
      phase = refl;
      frees = copied_frees (state t) i f s o t.phase c.requires t.spare;
      advances = λ g.
          record {
            less = copied_less (state t) i f s o t.phase c.requires t.spare g;
            numbers = copied_numbers (state t) i f s o t.phase c.requires t.spare g;
          };
    }
