-- Listings of the same entries.
use Rattle.std.proofs.Common.{◌≡◌, ℕ, List, [], ◌∷◌, ◌++◌, sym, ◌∙◌, ap₂}
use Rattle.page.specs.declared.fields.Entry.{Entry}
use Rattle.tree.specs.Table.{nodes_of}
use Rattle.tree.specs.Tree.{Entries, Among}
use Rattle.tree.proofs.Ordered.{one_entry}
use Rattle.tree.proofs.Paths.{one_path, stands_more}
use Rattle.listing.specs.Laws.{OneListing}
use Rattle.listing.specs.Listing.{line, LineOf, Lines}

-- more entries, the same lines
pub lines_same : (E F : Entries) → ((f : ℕ) (e : Entry) → E f e → F f e) → (files text : List ℕ) → Lines E files text → Lines F files text
lines_same E F more [] text ls = ls
lines_same E F more (file ∷ files) text (first, (e, x, path, s, is), rest, ls, joined) =
    (first, (e, more file e x, path, stands_more E F more 8 file path s, is), rest, lines_same E F more files rest ls, joined)

module _ (E : Entries) (one : (f : ℕ) (a b : Entry) → E f a → E f b → a ≡ b) (root : (e : Entry) → E 0 e → ⊥) where
  one_line : (file : ℕ) (s t : List ℕ) → LineOf E file s → LineOf E file t → s ≡ t
  one_line file s t (a, x, p, sp, e) (b, y, q, tq, f) = e ∙ ap₂ line (one file a b x y) (one_path E one root 8 file p q sp tq) ∙ sym f

  lines_one : (files a b : List ℕ) → Lines E files a → Lines E files b → a ≡ b
  lines_one [] a b s t = s ∙ sym t
  lines_one (file ∷ files) a b (s, l, r, ls, e) (t, m, q, ms, f) =
      e ∙ ap₂ (λ (x y : List ℕ). x ++ y) (one_line file s t l m) (lines_one files r q ls ms) ∙ sym f

pub one_listing : OneListing
one_listing tree root a b s t = lines_one (Among (nodes_of tree)) (one_entry (nodes_of tree) tree.nodes.rising) root _ a b s t
