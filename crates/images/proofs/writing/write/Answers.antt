use Rattle.std.proofs.Common.{ℕ, ◌+◌, ◌<◌, List, length, get_or, drop, Ok, Result, refl, sym, ◌⊎◌, subst, inl, inr}
use Rattle.std.proofs.lemmas.List.{at_drop_more, at_drop_all}
use Rattle.std.proofs.lemmas.Result.{err_from_is_err_and}
use Rattle.flash.specs.ImageCalls.{Image, view}
use Rattle.images.specs.Writes.{Puts, Refused, Writes}
use Rattle.images.specs.declared.bytes.ImageFault.{ImageFault}
use Rattle.images.specs.declared.placed.Placed.{Placed}
use Rattle.images.proofs.writing.write.Goals as goal

-- what the pages from n on end in: the first is refused, or it is put and the rest is written
from_place : (i j : Image) (ps : List Placed) (r : Result (Unit {0}) ImageFault) (n : ℕ) (d : Placed) → n < length ps
    → (Refused r × Puts i (get_or ps n d) r j) ⊎ ((k : Image) × Puts i (get_or ps n d) (Ok tt) k × Writes k (drop (n + 1) ps) r j)
    → Writes i (drop n ps) r j
from_place i j ps r n d l w = subst (λ xs. Writes i xs r j) (sym (at_drop_more (λ xs. xs) ps n d l)) w

pub loop-placed-preserved : goal.loop-placed-preserved
loop-placed-preserved c =
    λ r j w.
    c.loop-placed.invariant r j (from_place _ _ _ _ _ _ c.loop-placed-test.true (inr (view c.put.new.flash, c.in_ok-put.ensures, w)))

pub returns-in_err-put : goal.returns-in_err-put
returns-in_err-put c =
    let p = err_from_is_err_and c.from_residual.result c.from_residual.ensures.1 in
    rw (p.1, p.2) (c.loop-placed.invariant _ _ (from_place _ _ _ _ _ _ c.loop-placed-test.true (inl (tt, c.in_err-put.ensures))))

pub returns : goal.returns
returns c =
    let none = at_drop_all (λ xs. xs) c.args.pages.now c.loop-placed.placed-index c.loop-placed-test.false in
    c.loop-placed.invariant _ _ (subst (λ xs. Writes (view c.loop-placed.flash) xs (Ok tt) (view c.loop-placed.flash)) (sym none) (refl, refl))
