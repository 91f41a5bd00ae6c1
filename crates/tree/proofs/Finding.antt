-- The entry of a file, by the place where its number was found.
use Rattle.std.proofs.Common.{◌≡◌, ℕ, ◌<◌, Bool, true, false, List, length, get_or, MatchBool, ap, ◌∙◌, subst, arith}
use Rattle.std.specs.List.{AllWithin, HoldsAt}
use Rattle.std.proofs.lemmas.List.{get_or_default}
use Rattle.page.specs.declared.fields.Entry.{Entry}
use Rattle.lookup.specs.Found.{Absent}
use Rattle.tree.specs.declared.node.Node.{Node}
use Rattle.tree.specs.Sound.{Roots}
use Rattle.tree.specs.Table.{file_of}
use Rattle.tree.specs.Tree.{Among, Reached}
use Rattle.tree.proofs.Ordered.{nothing}

module _ (nodes : List Node) where
  -- the entry at a place is one of the table's
  pub entry_at : (i : ℕ) → i < length nodes → Among nodes (get_or nodes i nothing).file (get_or nodes i nothing).entry
  entry_at i h = (i, h, λ d. get_or_default nodes i d nothing h)

  -- and under the number that was looked for
  pub entry_found : (i file : ℕ) → i < length nodes → ((d : Node) → (get_or nodes i d).file ≡ file) → Among nodes file (get_or nodes i nothing).entry
  entry_found i file h is =
      let n = get_or nodes i nothing in
      (i, h, λ d. get_or_default nodes i d nothing h ∙ ap (λ f. record { file = f; entry = n.entry }) (is nothing))

  -- where no place has the number, no entry does
  pub none_found : (file : ℕ) → Absent file_of nodes file (length nodes) → (e : Entry) → Among nodes file e → ⊥
  none_found file absent e x = absent x.0 nothing x.1 (ap file_of (x.2 nothing))

  -- a test that looked at each node until one stood at no path
  pub roots_of : (r : Bool)
      → MatchBool r (AllWithin (λ n. Among nodes n.file n.entry → Reached (Among nodes) 8 n.file) nodes 0 (length nodes))
      ((k : ℕ) × (k < length nodes) × HoldsAt (λ n. Among nodes n.file n.entry → Reached (Among nodes) 8 n.file → ⊥) nodes k)
      → Roots (Among nodes) r
  roots_of true all = λ file e x.
      subst (Reached (Among nodes) 8) (ap file_of (x.2 nothing)) (all x.0 nothing (omega arith) x.1 (entry_at x.0 x.1))
  roots_of false some =
      (_, _, entry_at some.0 some.1, λ path s. some.2 nothing (entry_at some.0 some.1) (path, s))
