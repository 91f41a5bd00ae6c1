-- The slots of other files are kept.
use Rattle.std.proofs.Common.{◌≡◌, ℕ, Bool, true, not, eqb, List, length, get_or, sym, ap, subst, arith, rules, tests}
use Rattle.std.specs.List.{filter}
use Rattle.std.proofs.lemmas.List.{get_or_default}
use Rattle.planner.specs.Order.{Slot, Rising, Narrow}
use Rattle.planner.specs.Slots.{Forgets}
use Rattle.planner.proofs.Filtered.{passed, from, fewer}
use Rattle.planner.proofs.Firsts.{Among, holds_among, among_holds}

-- whether the slot is of another file
abbrev pub elsewhere : ℕ → Slot → Bool
elsewhere file x = not (eqb x.key.file file)

pub kept_forgets : (xs : List Slot) (file : ℕ) (ys : List Slot) → Rising ys → ys ≡ filter (elsewhere file) xs → Forgets xs file ys
kept_forgets xs file ys rises is =
    record {
      rising = rises;
      kept = λ x h nf. among_holds ys x (subst (λ zs. Among zs x) (sym is) (passed (elsewhere file) xs x (holds_among xs x h) (other x nf)));
      only = λ x h.
          let w = from (elsewhere file) xs x (subst (λ zs. Among zs x) is (holds_among ys x h)) in
          (among_holds xs x w.0, away x w.1);
      short = omega (arith, ap length is, fewer (elsewhere file) xs);
    }
  where
    other : (x : Slot) → (x.key.file ≡ file → ⊥) → elsewhere file x ≡ true
    other x ne = search (rules, tests)

    away : (x : Slot) → elsewhere file x ≡ true → x.key.file ≡ file → ⊥
    away x t = search (rules, tests)

-- what stays is as narrow as before
pub forgets_narrow : (xs ys : List Slot) (file : ℕ) → Forgets xs file ys → Narrow xs → Narrow ys
forgets_narrow xs ys file w n i d l =
    let (p, m, e) = (w.only (get_or ys i d) (i, l, λ b. get_or_default ys i b d l)).0 in
    omega (arith, n p d m, ap (λ (x : Slot). x.key.part) (e d))
