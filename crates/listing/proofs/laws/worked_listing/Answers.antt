use Rattle.std.proofs.Common.{◌≡◌, ℕ, ◌+◌, ◌<◌, List, [], ◌∷◌, ◌++◌, codes, decimal, sym, refl, ap, arith}
use Rattle.std.proofs.lemmas.Fmt.{decimal_digit}
use Rattle.tree.specs.Tree.{Among, Stands}
use Rattle.tree.proofs.Paths.{stands_below, stands_root}
use Rattle.listing.specs.Worked.{cal, arc}
use Rattle.listing.proofs.laws.worked_listing.Goals as goal

cal_in : Among (cal ∷ (arc ∷ [])) 4 cal.entry
cal_in = (0, omega arith, λ d. refl)

arc_in : Among (cal ∷ (arc ∷ [])) 9 arc.entry
arc_in = (1, omega arith, λ d. refl)

cal_at : (n : ℕ) → (n ≡ 0 → ⊥) → Stands (Among (cal ∷ (arc ∷ []))) n 4 (codes "/cal")
cal_at n some = stands_root (Among (cal ∷ (arc ∷ []))) n 4 cal.entry some cal_in refl

arc_at : Stands (Among (cal ∷ (arc ∷ []))) 8 9 (codes "/cal/arc")
arc_at = stands_below (Among (cal ∷ (arc ∷ []))) 8 9 arc.entry (codes "/cal") (λ e. omega arith) arc_in (cal.entry, cal_in, refl) (cal_at 7 (λ e. omega arith))

-- a line with one digit
one_digit : (l n : ℕ) (rest : List ℕ) → n < 10 → l ∷ (32 ∷ ((48 + n) ∷ rest)) ≡ l ∷ (32 ∷ (decimal n ++ rest))
one_digit l n rest h = ap (λ (ds : List ℕ). l ∷ (32 ∷ (ds ++ rest))) (sym (decimal_digit n h))

pub returns : goal.returns
returns c = (
  codes "d 0 /cal" ++ (10 ∷ []),
  (cal.entry, cal_in, codes "/cal", cal_at 8 (λ e. omega arith), one_digit 100 0 (codes " /cal" ++ (10 ∷ [])) (omega arith)),
  codes "f 3 /cal/arc" ++ (10 ∷ []),
  (codes "f 3 /cal/arc" ++ (10 ∷ []), (arc.entry, arc_in, codes "/cal/arc", arc_at, one_digit 102 3 (codes " /cal/arc" ++ (10 ∷ [])) (omega arith)), [], refl, refl),
  refl,
)
