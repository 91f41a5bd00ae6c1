use Rattle.std.proofs.Common.{◌≡◌, ℕ, length, get_or, ap, subst, arith}
use Rattle.lookup.specs.Rows.{rows}
use Rattle.lookup.proofs.Insertion.{long}
use Rattle.replay.specs.Slots.{Collects, slot_at}
use Rattle.replay.proofs.Collecting.{collects_fresh, collects_more, collects_skip}
use Rattle.replay.proofs.Nothing.{nothing}
use Rattle.replay.proofs.pages.Pages.collect.Goals as goal
use Rattle.replay.proofs.pages.Pages.collect.Goals.{in-Some, in_default}

pub put_slot-requires-clause-new : goal.put_slot-requires-clause-new
put_slot-requires-clause-new g c =
    let p = c.args.self.now in
    collects_fresh p.seen.now p.whole.now p.floor (g.W.Wants.wanted c.args.wants.now) c.loop-i.i c.loop-i-test.true (rows c.loop-i.slots) c.loop-i.invariant.1 c.requires.small c.in-Some.key c.in-Some.ensures.0

pub loop-i-preserved : goal.loop-i-preserved
loop-i-preserved g c =
    let p = c.args.self.now in
    let i = c.loop-i.i in
    let W = g.W.Wants.wanted c.args.wants.now in
    let old = rows c.loop-i.slots in
    elim c.match-shows_wanted.branch [
      | in-Some w ↦ rw w.slots-is (
        omega (arith, c.loop-i.invariant.0, ap length w.put_slot.ensures.is, long old (slot_at w.in-Some.key (get_or p.seen.now i nothing)) w.put_slot.ensures.at w.put_slot.ensures.within),
        collects_more p.seen.now p.whole.now p.floor W i c.loop-i-test.true old c.loop-i.invariant.1 c.requires.small w.in-Some.key w.in-Some.ensures.0 w.in-Some.ensures.1 (rows w.put_slot.new.slots) nothing w.put_slot.ensures,
      )
      | in_default w ↦ rw w.slots-is (omega (arith, c.loop-i.invariant.0), collects_skip p.seen.now p.whole.now p.floor W i c.loop-i-test.true old c.loop-i.invariant.1 w.in_default.ensures)
    ]

pub returns : goal.returns
returns g c =
    let p = c.args.self.now in
    let e : c.loop-i.i ≡ length c.args.self.now.seen.now = omega (arith, c.loop-i.auto.i-end, c.loop-i-test.false) in
    subst (λ (n : ℕ). Collects p.seen.now p.whole.now p.floor n (g.W.Wants.wanted c.args.wants.now) (rows c.loop-i.slots)) e c.loop-i.invariant.1
