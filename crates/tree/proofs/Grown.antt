-- The entries of a table after one was put in its place: the old ones and the new one.
use Rattle.std.proofs.Common.{◌≡◌, ℕ, ◌<◌, ◌⊎◌, List, length, get_or, sym, ap, ◌∙◌, subst, inl, inr, arith}
use Rattle.std.specs.List.{insert}
use Rattle.page.specs.declared.fields.Entry.{Entry}
use Rattle.lookup.specs.Sorts.{InPlace}
use Rattle.lookup.proofs.Insertion.{At, before, itself, later, which, stands, stays}
use Rattle.tree.specs.declared.node.Node.{Node}
use Rattle.tree.specs.Table.{file_of}
use Rattle.tree.specs.Tree.{Among}
use Rattle.tree.proofs.Ordered.{nothing}
use Rattle.std.proofs.lemmas.List.{get_or_default}

module _ (xs ys : List Node) (new : Node) (put : InPlace file_of xs new ys) where
  pub old_stays : (file : ℕ) (e : Entry) → Among xs file e → Among ys file e
  old_stays file e (i, h, is) =
      subst (λ (zs : List Node). Among zs file e) (sym put.is) (stays xs new put.at put.within (λ n. n ≡ record { file = file; entry = e }) i h is)

  pub new_stands : Among ys new.file new.entry
  new_stands =
      let s = stands xs new put.at put.within in
      subst (λ (zs : List Node). Among zs new.file new.entry) (sym put.is) (put.at, s.0, s.1)

  from : (i : ℕ) (file : ℕ) (e : Entry) → get_or (insert xs put.at new) i nothing ≡ record { file = file; entry = e } → At xs new put.at put.within i nothing
      → Among xs file e ⊎ ((file ≡ new.file) × (e ≡ new.entry))
  from i file e is (before l a) = (let h : i < length xs = omega (arith, put.within) in inl (i, h, λ d. get_or_default xs i d nothing h ∙ sym a ∙ is))
  from i file e is (itself s a) = inr (ap file_of (sym is ∙ a), ap (λ (n : Node). n.entry) (sym is ∙ a))
  from i file e is (later k s g h a) = inl (k, h, λ d. get_or_default xs k d nothing h ∙ sym a ∙ is)

  pub old_or_new : (file : ℕ) (e : Entry) → Among ys file e → Among xs file e ⊎ ((file ≡ new.file) × (e ≡ new.entry))
  old_or_new file e x =
      let (i, h, is) = subst (λ (zs : List Node). Among zs file e) put.is x in
      from i file e (is nothing) (which xs new put.at put.within i nothing h)
