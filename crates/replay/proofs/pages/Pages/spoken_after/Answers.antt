use Rattle.std.proofs.Common.{◌≡◌, ℕ, ◌+◌, ◌-◌, ◌<◌, Bool, false, length, Decides, rules, tests, sym, refl, ◌∙◌, subst, arith}
use Rattle.std.specs.List.{HoldsAt, range_with_len}
use Rattle.std.proofs.lemmas.Bool.{false≢true}
use Rattle.std.proofs.lemmas.Iterator.{cases_from_any, YieldsList-from_range}
use Rattle.std.proofs.lemmas.List.FromFn.{get_or-range_with_len, length-range_with_len}
use Rattle.replay.specs.Shows.{SpeaksAt}
use Rattle.tree.proofs.Deciding.{it_is_some}
use Rattle.replay.proofs.pages.Pages.spoken_after.Goals as goal

-- what holds of some number from a on, below b
in_range : (P : ℕ → Type 0) (r : Bool) (i b : ℕ)
    → Decides r ((k : ℕ) × (k < length (range_with_len (i + 1) (b - (i + 1)))) × HoldsAt P (range_with_len (i + 1) (b - (i + 1))) k) → Decides r ((j : ℕ) × (i < j) × (j < b) × P j)
in_range P r i b d = (
  λ t. (let (k, h, p) = d.0 t in
      let low : k < b - (i + 1) = omega (arith, length-range_with_len (i + 1) (b - (i + 1))) in
      ((i + 1) + k, omega arith, omega arith, subst P (get_or-range_with_len (i + 1) (b - (i + 1)) k 0 low) (p 0))),
  λ (j, l, h, p).
      let k : j - (i + 1) < b - (i + 1) = omega arith in
      let at : (i + 1) + (j - (i + 1)) ≡ j = omega arith in
      d.1 (j - (i + 1), omega (arith, length-range_with_len (i + 1) (b - (i + 1))), λ e. subst P (sym (get_or-range_with_len (i + 1) (b - (i + 1)) (j - (i + 1)) e k ∙ at)) p),
)

pub returns : goal.returns
returns c =
    let pages = c.args.self.now in
    let P : ℕ → Type 0 = λ j. SpeaksAt pages.seen.now pages.whole.now pages.floor j c.args.key.now in
    in_range P _ c.args.i (length c.args.self.now.seen.now)
    (it_is_some P (range_with_len (c.args.i + 1) (length c.args.self.now.seen.now - (c.args.i + 1))) _ 0
    (cases_from_any _ _ _ P (λ j. P j → ⊥) c.any.ensures.ran (YieldsList-from_range (c.args.i + 1) (length c.args.self.now.seen.now) (length c.args.self.now.seen.now - (c.args.i + 1)) refl refl)
    (λ x q k. search (rules, tests)) (λ x q k. let d : Decides false (P x) = search (rules, tests) in (search (rules, tests), λ p. false≢true (d.1 p)))))
