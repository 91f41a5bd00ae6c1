-- Paths, from the root down.
use Rattle.std.proofs.Common.{◌≡◌, ℕ, zero, suc, ◌-◌, ◌*◌, ◌≤◌, ◌⊎◌, List, [], ◌∷◌, ◌++◌, length, sym, refl, ap, ◌∙◌, subst, inl, inr, arith, length-append, length-take}
use Rattle.page.specs.declared.fields.Entry.{Entry}
use Rattle.page.specs.declared.names.Name.{Name}
use Rattle.page.specs.Names.{name_text}
use Rattle.tree.specs.Tree.{Entries, DirectoryAt, Stands, Reached}

less_one : (n : ℕ) → suc n - 1 ≡ n
less_one n = omega arith

module _ (E : Entries) where
  pub stands_nowhere : (n file : ℕ) → n ≡ 0 → Reached E n file → ⊥
  unfolding Stands
  stands_nowhere zero file e r = r.1
  stands_nowhere (suc n) file e r = absurd (omega arith)

  pub stands_root : (n file : ℕ) (e : Entry) → (n ≡ 0 → ⊥) → E file e → e.directory ≡ 0 → Stands E n file (47 ∷ name_text e.name)
  unfolding Stands
  stands_root zero file e some x root = absurd (some refl)
  stands_root (suc n) file e some x root = (e, x, [], inl (root, refl), refl)

  pub stands_below : (n file : ℕ) (e : Entry) (above : List ℕ) → (n ≡ 0 → ⊥) → E file e → DirectoryAt E e.directory → Stands E (n - 1) e.directory above
      → Stands E n file (above ++ (47 ∷ name_text e.name))
  unfolding Stands
  stands_below zero file e above some x dir s = absurd (some refl)
  stands_below (suc n) file e above some x dir s = (e, x, above, inr (dir, subst (λ m. Stands E m e.directory above) (less_one n) s), refl)

  pub stands_back : ((f : ℕ) (a b : Entry) → E f a → E f b → a ≡ b) → (n file : ℕ) (e : Entry) → E file e → (e.directory ≡ 0 → ⊥) → Reached E n file
      → DirectoryAt E e.directory × Reached E (n - 1) e.directory
  unfolding Stands
  stands_back one zero file e x inner r = absurd r.1
  stands_back one (suc n) file e x inner r =
      let (a, y, above, step, is) = r.1 in
      let same : a.directory ≡ e.directory = ap (λ (b : Entry). b.directory) (one file a e y x) in
      elim step [
        | inl s ↦ absurd (inner (sym same ∙ s.0))
        | inr s ↦ (subst (DirectoryAt E) same s.0, (above, subst (λ f. Stands E (suc n - 1) f above) same (subst (λ m. Stands E m a.directory above) (sym (less_one n)) s.1)))
      ]

-- more entries, the same paths
pub stands_more : (E F : Entries) → ((f : ℕ) (e : Entry) → E f e → F f e) → (n file : ℕ) (path : List ℕ) → Stands E n file path → Stands F n file path
unfolding Stands
stands_more E F more zero file path s = absurd s
stands_more E F more (suc n) file path s =
    let (e, x, above, step, is) = s in (
      e,
      more file e x,
      above,
      elim step [
        | inl r ↦ inl r
        | inr b ↦ inr ((b.0.0, more e.directory b.0.0 b.0.1, b.0.2), stands_more E F more n e.directory above b.1)
      ],
      is,
    )

-- the steps to one entry, above which there is one path
meet : (E : Entries) → ((e : Entry) → E 0 e → ⊥) → (n : ℕ) (a b : Entry) (up above : List ℕ) → a ≡ b → ((f : ℕ) → Stands E n f up → Stands E n f above → up ≡ above)
    → ((a.directory ≡ 0) × (up ≡ [])) ⊎ (DirectoryAt E a.directory × Stands E n a.directory up)
    → ((b.directory ≡ 0) × (above ≡ [])) ⊎ (DirectoryAt E b.directory × Stands E n b.directory above) → up ≡ above
meet E root n a b up above same on (inl r) (inl t) = r.1 ∙ sym t.1
meet E root n a b up above same on (inl r) (inr t) = absurd (root t.0.0 (subst (λ f. E f t.0.0) (ap (λ (c : Entry). c.directory) (sym same) ∙ r.0) t.0.1))
meet E root n a b up above same on (inr r) (inl t) = absurd (root r.0.0 (subst (λ f. E f r.0.0) (ap (λ (c : Entry). c.directory) same ∙ t.0) r.0.1))
meet E root n a b up above same on (inr r) (inr t) = on b.directory (subst (λ f. Stands E n f up) (ap (λ (c : Entry). c.directory) same) r.1) t.1

ends : (a b : Entry) (up above : List ℕ) → a ≡ b → up ≡ above → up ++ (47 ∷ name_text a.name) ≡ above ++ (47 ∷ name_text b.name)
ends a b up above same e = ap (λ (c : Entry). up ++ (47 ∷ name_text c.name)) same ∙ ap (λ u. u ++ (47 ∷ name_text b.name)) e

-- where each file has one entry and none the root's number, it stands at one path
pub one_path : (E : Entries) → ((f : ℕ) (a b : Entry) → E f a → E f b → a ≡ b) → ((e : Entry) → E 0 e → ⊥) → (n file : ℕ) (p q : List ℕ) → Stands E n file p → Stands E n file q → p ≡ q
unfolding Stands
one_path E one root zero file p q s t = absurd s
one_path E one root (suc n) file p q s t =
    let (a, x, up, step, is) = s in
    let (b, y, above, pets, si) = t in
    let same = one file a b x y in
    is ∙ ends a b up above same (meet E root n a b up above same (λ f. one_path E one root n f up above) step pets) ∙ sym si

-- a name has at most 24 bytes
pub name_short : (n : Name) → length (name_text n) ≤ 24
name_short n = simp length-take (omega arith)

-- and a path at most 25 to a name
pub path_short : (E : Entries) (n file : ℕ) (path : List ℕ) → Stands E n file path → length path ≤ 25 * n
unfolding Stands
path_short E zero file path s = absurd s
path_short E (suc n) file path s =
    let (e, x, above, step, is) = s in
    let up : length above ≤ 25 * n = elim step [ inl r ↦ omega (arith, ap length r.1) | inr b ↦ path_short E n e.directory above b.1 ] in
    omega (arith, ap length is, length-append above (47 ∷ name_text e.name), name_short e.name)
