use Rattle.std.proofs.Common.{ℕ, ◌<◌, set, Some, refl, ◌∙◌, arith, length-set}
use Rattle.planner.specs.State.{State}
use Rattle.planner.specs.Moves.{Opened}
use Rattle.planner.specs.Shape.{shape}
use Rattle.planner.specs.Steps.{state}
use Rattle.planner.specs.declared.tables.Tables.{Tables}
use Rattle.planner.proofs.Writing.{open_writes}
use Rattle.planner.proofs.Opening.{open_sound}
use Rattle.planner.proofs.Phases.{keeps_spare, opened_keeps, opened_less, opened_numbers}
use Rattle.planner.proofs.Unique.{the_sound}
use Rattle.planner.proofs.tables.Tables.opened.Goals as goal

-- the state after
abbrev after : Tables → ℕ → State
after t b = shape t.slots (set t.high b 0) t.per t.blocks t.floor t.last (Some (record { block = b; used = 0 }))

writes : (t : Tables) (b : ℕ) → b < t.blocks → Opened (state t) b (after t b)
writes t b l = open_writes t.slots t.high t.per t.blocks t.floor t.last t.head b (omega (arith, t.tall, t.small))

pub invariant_of-self : goal.invariant_of-self
invariant_of-self c =
    let t = c.args.self.now in
    let b = c.args.block in
    let may = c.requires in
    let o = writes t b may.0.real in
    record {
      tall = length-set t.high b 0 ∙ t.tall;
      slim = t.slim;
      small = t.small;
      few = t.few;
      within = omega arith;
      sound = ∣ open_sound (state t) (the_sound t) b may.0 (after t b) o ∣₁;
      spare = opened_keeps (state t) (the_sound t) b (after t b) o t.phase c.phase_after-phase.result may c.phase_after-phase.ensures t.spare;
    }

pub returns : goal.returns
returns c =
    let t = c.args.self.now in
    let b = c.args.block in
    let may = c.requires in
    let o = writes t b may.0.real in
    let q = c.phase_after-phase.result in
    let a = c.phase_after-phase.ensures in
    record {
      opened = o;
      keys = record { per = refl; blocks = refl; count = refl; keys = λ k l. refl };
      spare = keeps_spare q (after t b) (opened_keeps (state t) (the_sound t) b (after t b) o t.phase q may a t.spare);
      advances = λ g l h.
          record {
            less = opened_less (state t) (the_sound t) b (after t b) o t.phase q may a g l h;
            numbers = opened_numbers (state t) (the_sound t) b (after t b) o t.phase q may a g l h;
          };
    }
