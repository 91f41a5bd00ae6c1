-- The entries of a table by rising file number: no file number has two.
use Rattle.std.proofs.Common.{◌≡◌, ℕ, ◌<◌, List, [], length, get_or, sym, ap, ◌∙◌, arith}
use native.Mathlib.Decide.{dec_lt, ℕ_discrete}
use Rattle.page.specs.declared.fields.Entry.{Entry}
use Rattle.page.specs.declared.fields.EntryKind.TheVariants.{File}
use Rattle.tree.specs.declared.node.Node.{Node}
use Rattle.tree.specs.Table.{file_of, Rising}
use Rattle.tree.specs.Tree.{Among}

-- any node, where only some node is needed
abbrev pub nothing : Node
nothing = record { file = 0; entry = record { directory = 0; kind = File; length = 0; name = record { len = 0; bytes = [] } } }

-- one file number is that of one place
pub one_place : (nodes : List Node) → Rising nodes → (i j : ℕ) (d : Node) → i < length nodes → j < length nodes → (get_or nodes i d).file ≡ (get_or nodes j d).file → i ≡ j
one_place nodes rising i j d hi hj e =
    elim (ℕ_discrete i j) [
      | yes same ↦ same
      | no ne ↦ elim (dec_lt i j) [
        | yes l ↦ absurd (omega (arith, rising i j d l hj))
        | no ge ↦ absurd (let l : j < i = other i j ge ne in omega (arith, rising j i d l hi))
      ]
    ]
  where
    other : (i j : ℕ) → (i < j → ⊥) → (i ≡ j → ⊥) → j < i
    other i j ge ne = omega arith

-- and has one entry
pub one_entry : (nodes : List Node) → Rising nodes → (file : ℕ) (a b : Entry) → Among nodes file a → Among nodes file b → a ≡ b
one_entry nodes rising file a b x y =
    let same : x.0 ≡ y.0 = one_place nodes rising x.0 y.0 nothing x.1 y.1 (ap file_of (x.2 nothing) ∙ sym (ap file_of (y.2 nothing))) in
    ap (λ (n : Node). n.entry) (sym (x.2 nothing) ∙ ap (λ i. get_or nodes i nothing) same ∙ y.2 nothing)
