-- Names that two entries share, by their places in the table.
use Rattle.std.proofs.Common.{◌≡◌, ℕ, zero, suc, ◌-◌, ◌<◌, ◌≤◌, ◌⊎◌, Bool, true, false, Decides, List, [], ◌∷◌, length, get_or, take, drop, sym, ap, ◌∙◌, subst, inl, inr, arith}
use Rattle.std.proofs.lemmas.Bool.{false≢true}
use Rattle.std.proofs.lemmas.List.{take_rest}
use native.Mathlib.Decide.{dec_lt, ℕ_discrete}
use Rattle.page.specs.declared.fields.Entry.{Entry}
use Rattle.tree.specs.declared.node.Node.{Node}
use Rattle.tree.specs.Sound.{HasLike, Repeated, Repeats}
use Rattle.tree.specs.Table.{file_of, Rising}
use Rattle.tree.specs.Tree.{Alike, Among, Namesakes}
use Rattle.tree.proofs.Ordered.{nothing}
use Rattle.tree.proofs.Finding.{entry_at}

swap : (a b : Entry) → Alike a b → Alike b a
swap a b s = (sym s.0, sym s.1)

module _ (nodes : List Node) (rising : Rising nodes) where
  pub namesakes_from : (at : ℕ) → Repeated nodes at → Namesakes (Among nodes)
  namesakes_from at (j, lt, h, alike) = record {
    one = (get_or nodes at nothing).file;
    other = (get_or nodes j nothing).file;
    apart = λ e. omega (arith, rising at j nothing lt h);
    entry = (get_or nodes at nothing).entry;
    namesake = (get_or nodes j nothing).entry;
    here = entry_at nodes at (omega arith);
    there = entry_at nodes j h;
    alike = alike nothing;
  }

  at_places : (i j : ℕ) (a b : Entry) (f g : ℕ) → i < j → j < length nodes → ((d : Node) → get_or nodes i d ≡ record { file = f; entry = a }) → ((d : Node) → get_or nodes j d ≡ record { file = g; entry = b })
      → Alike a b → Repeated nodes i
  at_places i j a b f g lt h x y alike =
      (j, lt, h, λ d. subst (λ (m : Node). Alike m.entry (get_or nodes j d).entry) (sym (x d)) (subst (λ (m : Node). Alike a m.entry) (sym (y d)) alike))

  pub repeated_from : Namesakes (Among nodes) → Repeats nodes
  repeated_from n =
      let (i, hi, x) = n.here in
      let (j, hj, y) = n.there in
      elim (dec_lt i j) [
        | yes l ↦ (i, hi, at_places i j n.entry n.namesake n.one n.other l hj x y n.alike)
        | no ge ↦ elim (ℕ_discrete i j) [
          | yes e ↦ absurd (n.apart (sym (ap file_of (x nothing)) ∙ ap (λ k. (get_or nodes k nothing).file) e ∙ ap file_of (y nothing)))
          | no ne ↦ (j, hj, at_places j i n.namesake n.entry n.other n.one (after i j ge ne) hi y x (swap n.entry n.namesake n.alike))
        ]
      ]
    where
      after : (i j : ℕ) → (i < j → ⊥) → (i ≡ j → ⊥) → j < i
      after i j ge ne = omega arith

-- the first node is like a later one, or one of the others is
pub by_first : (x : Node) (xs : List Node) → HasLike xs x.entry → Repeats (x ∷ xs)
by_first x xs (j, lt, like) = (0, omega arith, (suc j, omega arith, omega (arith, lt), like))

pub by_rest : (x : Node) (xs : List Node) → Repeats xs → Repeats (x ∷ xs)
by_rest x xs (at, h, (j, low, high, like)) = (suc at, omega (arith, h), (suc j, omega (arith, low), omega (arith, high), like))

pub first_or_rest : (x : Node) (xs : List Node) → Repeats (x ∷ xs) → HasLike xs x.entry ⊎ Repeats xs
first_or_rest x xs (at, h, (zero, low, high, like)) = absurd (omega (arith, low))
first_or_rest x xs (zero, h, (suc j, low, high, like)) = inl (j, omega (arith, high), like)
first_or_rest x xs (suc at, h, (suc j, low, high, like)) = inr (at, omega (arith, h), (j, omega (arith, low), omega (arith, high), like))

-- so a test of the first node, and then of the others, decides it
pub decided_first : (r : Bool) (xs : List Node) (d : Node) → 1 ≤ length xs → r ≡ true
    → Decides r (HasLike (take (length xs - 1) (drop 1 xs)) (get_or xs 0 d).entry) → Decides r (Repeats xs)
decided_first r [] d h e like = absurd (omega arith)
decided_first r (x ∷ xs) d h e like = (λ t. by_first x xs (subst (λ ys. HasLike ys x.entry) (take_rest (x ∷ xs) 1) (like.0 t)), λ s. e)

pub decided_rest : (b r : Bool) (xs : List Node) (d : Node) → 1 ≤ length xs → b ≡ false
    → Decides b (HasLike (take (length xs - 1) (drop 1 xs)) (get_or xs 0 d).entry) → Decides r (Repeats (take (length xs - 1) (drop 1 xs))) → Decides r (Repeats xs)
decided_rest b r [] d h e like rest = absurd (omega arith)
decided_rest b r (x ∷ xs) d h e like rest =
    let same = take_rest (x ∷ xs) 1 in (
      λ t. by_rest x xs (subst Repeats same (rest.0 t)),
      λ s. elim (first_or_rest x xs s) [
        | inl l ↦ absurd (false≢true (sym e ∙ like.1 (subst (λ ys. HasLike ys x.entry) (sym same) l)))
        | inr m ↦ rest.1 (subst Repeats (sym same) m)
      ],
    )
