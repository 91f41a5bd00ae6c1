use Rattle.std.proofs.Common.{◌+◌, ◌<◌, ◌∷◌, length, take, sym, refl, ap, ◌∙◌, subst, arith, of_calls}
use Rattle.std.proofs.lemmas.List.{drop-set-lt, length-set, take_min}
use Rattle.std.proofs.lemmas.Grind.{drop_more_same}
use Rattle.std.specs.Fn.{CalledAt}
use Rattle.std.specs.List.Retain.{IsFiltered}
use Rattle.lookup.proofs.Retaining.{all_kept, at_drop, kept_front, left_out, taken}
use Rattle.lookup.proofs.sorted.retain.Goals as goal
use Rattle.lookup.proofs.sorted.retain.Goals.{then-keep, else-keep}

pub loop-i-preserved : goal.loop-i-preserved
loop-i-preserved g c =
    let R = CalledAt g.F.FnMut in
    let old = c.args.items.now in
    let now = c.loop-i.items in
    let i = c.loop-i.i in
    let x = c.index-items-i.result in
    let inv = c.loop-i.invariant in
    let room : i < length now = omega (arith, inv.long, c.loop-i-test.true) in
    let is = at_drop now old i x c.index-items-i.is inv.rest in
    let called : R c.loop-i.keep x c.keep.result c.keep.new.self = record { shown = _; shows = refl; called = c.keep.ensures } in
    elim c.if-keep.branch [
      | then-keep w ↦ rw (w.items-is, w.left-is) (record {
        callable = search of_calls;
        long = length-set now c.loop-i.left x ∙ inv.long;
        left = omega (arith, inv.left);
        rest = drop-set-lt (i + 1) now c.loop-i.left x (omega (arith, inv.left)) ∙ drop_more_same now old i inv.rest;
        kept = λ zs k. subst (IsFiltered R c.args.keep (take c.min-i-end.result old)) (sym (kept_front now c.loop-i.left x zs (omega (arith, inv.left))))
            (inv.kept (x ∷ zs) (taken R c.loop-i.keep c.keep.new.self old i c.min-i-end.result x c.keep.result c.loop-i-test.true (omega (arith, inv.long)) is called w.if-keep.true zs k));
      })
      | else-keep w ↦ rw (w.items-is, w.left-is) (record {
        callable = search of_calls;
        long = inv.long;
        left = omega (arith, inv.left);
        rest = drop_more_same now old i inv.rest;
        kept = λ zs k. inv.kept zs (left_out R c.loop-i.keep c.keep.new.self old i c.min-i-end.result x c.keep.result c.loop-i-test.true (omega (arith, inv.long)) is called w.if-keep.false zs k);
      })
    ]

pub returns-clause-kept : goal.returns-clause-kept
returns-clause-kept g c =
    let R = CalledAt g.F.FnMut in
    let old = c.args.items.now in
    let all = all_kept R c.args.keep c.loop-i.keep old (take c.loop-i.left c.loop-i.items) c.loop-i.i c.min-i-end.result c.loop-i-test.false c.loop-i.invariant.kept in
    subst (λ xs. IsFiltered R c.args.keep xs (take c.loop-i.left c.loop-i.items)) (ap (λ n. take n old) c.min-i-end.ensures ∙ take_min c.args.len old) all
