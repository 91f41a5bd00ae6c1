-- A chip on which one place took a data page, where none was: its log has that page more.
use Rattle.std.proofs.Common.{◌≡◌, ℕ, length, Ok, Result, sym, ap, ◌∙◌, subst, inl, inr, arith}
use native.Mathlib.Decide.{ℕ_discrete}
use Rattle.flash.specs.Chip.{Chip, page}
use Rattle.page.specs.declared.fields.Page.{Page}
use Rattle.page.specs.declared.fields.PageFault.{PageFault}
use Rattle.page.specs.Decoded.{decoded}
use Rattle.replay.specs.Log.{LogOf, Logged}
use Rattle.replay.specs.Changes.{Added}
use Rattle.replay.proofs.Copies.{Only}

module _ (c d : Chip) (new : Logged) (long : length d.pages ≡ length c.pages)
    (rest : (x : ℕ) → (x ≡ new.place → ⊥) → page d x ≡ page c x) (blank : (p : Page) → decoded (page c new.place) ≡ Ok p → ⊥)
    (there : LogOf d new) where
  -- the place of the new page held no data
  elsewhere : (p : Logged) → LogOf c p → p.place ≡ new.place → ⊥
  elsewhere p (h, e) at = blank p.page (subst (λ (x : ℕ). decoded (page c x) ≡ Ok p.page) at e)

  one_page : (p : Page) → decoded (page d new.place) ≡ Ok p → p ≡ new.page
  one_page p e = ok_once (sym e ∙ there.1)
    where
      ok_once : {a b : Page} → ◌≡◌ {A = Result Page PageFault} (Ok a) (Ok b) → a ≡ b
      ok_once s = grind arith

  same_logged : (p : Logged) → p.place ≡ new.place → p.page ≡ new.page → p ≡ new
  same_logged p at s = grind arith

  pub written : Added (LogOf c) (Only new) (LogOf d)
  written =
      record {
        only = λ p (h, e).
            elim (ℕ_discrete p.place new.place) [
              | yes at ↦ inr (same_logged p at (one_page p.page (subst (λ (x : ℕ). decoded (page d x) ≡ Ok p.page) at e)))
              | no other ↦ inl (omega arith, ap decoded (sym (rest p.place other)) ∙ e)
            ];
        old = λ p l. (omega (arith, l.0), ap decoded (rest p.place (elsewhere p l)) ∙ l.1);
        new = λ p s. subst (λ (q : Logged). LogOf d q) (sym s) there;
      }
