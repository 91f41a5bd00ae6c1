use Rattle.std.proofs.Common.{◌≡◌, ℕ, ◌+◌, ◌<◌, ◌≤◌, List, length, set, Some, sym, refl, ap, ◌∙◌, subst, arith, length-set}
use Rattle.planner.specs.State.{State, Sound, Free, limit}
use Rattle.planner.specs.Batches.{BatchFloor, Batched}
use Rattle.planner.specs.Room.{Room}
use Rattle.planner.specs.Shape.{shape, head_of, used_of}
use Rattle.planner.specs.Slots.{listed}
use Rattle.planner.specs.Steps.{state}
use Rattle.planner.specs.Written.{Written}
use Rattle.planner.specs.declared.head.Head.{Head}
use Rattle.planner.specs.declared.says.Says.{Says}
use Rattle.planner.specs.declared.slots.Slots.{Slots}
use Rattle.planner.specs.declared.tables.Tables.{Tables}
use Rattle.planner.proofs.Batching.{batch_sound, batch_free}
use Rattle.planner.proofs.Committing.{batch_writes}
use Rattle.planner.proofs.Limits.{limit_most}
use Rattle.planner.proofs.Unique.{the_sound}
use Rattle.planner.proofs.tables.Tables.commit.Goals as goal

module _ (t : Tables) (pages : List Says) (h : Head) (after : Slots) (f : ℕ) (is : t.head ≡ Some h) (some : 1 ≤ length pages) (room : Room (state t) (length pages))
    (floor : BatchFloor (state t) f) (few : length (listed after) ≤ limit t.per t.blocks)
    (written : Written (listed t.slots) pages h.block h.used (t.last + 1) (length pages) (listed after)) where
  -- the state after
  abbrev then : State
  then =
      shape after (set t.high h.block (t.last + length pages)) t.per t.blocks f (t.last + length pages) (Some (record { block = h.block; used = h.used + length pages }))

  inside : h.block < 16
  inside = omega (arith, ap (head_of t.blocks) is, room.headed, t.small)

  writes : Batched (state t) (length pages) f then
  writes =
      batch_writes t.slots after t.high t.per t.blocks t.floor t.last t.head h is pages (the_sound t) written f (omega (arith, inside, t.tall)) few

  sound : Sound then
  sound = batch_sound (state t) then (length pages) f (the_sound t) some room floor writes

  free : (b : ℕ) × Free then b
  free = batch_free (state t) then (length pages) f (the_sound t) some room floor writes

  within : h.used + length pages ≤ t.per
  within = omega (arith, ap (used_of t.per) is, room.left)

  most : length (listed after) ≤ 208
  most = omega (arith, few, limit_most t.per t.blocks t.slim t.small)

  written_at : Written (listed t.slots) pages (state t).head (state t).used (t.last + 1) (length pages) (listed after)
  written_at =
      subst (λ u. Written (listed t.slots) pages (state t).head u (t.last + 1) (length pages) (listed after)) (sym (ap (used_of t.per) is))
      (subst (λ b. Written (listed t.slots) pages b h.used (t.last + 1) (length pages) (listed after)) (sym (ap (head_of t.blocks) is)) written)

pub invariant_of-self : goal.invariant_of-self
invariant_of-self c =
    let t = c.args.self.now in
    let pages = c.args.pages.now in
    let h = c.args.head in
    let p = c.requires in
    record {
      tall = length-set t.high h.block (t.last + length pages) ∙ t.tall;
      slim = t.slim;
      small = t.small;
      few = most t pages h c.args.after c.args.floor p.head p.some p.room p.floor p.limited p.written;
      within = within t pages h c.args.after c.args.floor p.head p.some p.room p.floor p.limited p.written;
      sound = ∣ sound t pages h c.args.after c.args.floor p.head p.some p.room p.floor p.limited p.written ∣₁;
      spare = ∣ free t pages h c.args.after c.args.floor p.head p.some p.room p.floor p.limited p.written ∣₁;
    }

pub returns : goal.returns
returns c =
    let t = c.args.self.now in
    let pages = c.args.pages.now in
    let h = c.args.head in
    let p = c.requires in
    record {
      floor = p.floor;
      written = written_at t pages h c.args.after c.args.floor p.head p.some p.room p.floor p.limited p.written;
      batched = writes t pages h c.args.after c.args.floor p.head p.some p.room p.floor p.limited p.written;
      free = free t pages h c.args.after c.args.floor p.head p.some p.room p.floor p.limited p.written;
      rest = refl;
    }
