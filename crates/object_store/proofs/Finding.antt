-- What is found in a table by an index, and by a key.
use Rattle.std.proofs.Common.{◌≡◌, ℕ, zero, suc, ◌<◌, Bool, true, false, cond, List, [], ◌∷◌, map, length, get_or, is_some, Some, None, Option, sym, refl, ap, ◌∙◌, ap₂, inl, inr, arith}
use Rattle.std.proofs.lemmas.Bool.{cases_Bool, or_from, or_left, or_right}
use Rattle.std.specs.Option.{MatchOption, IsSomeAnd}
use Rattle.object.specs.declared.value.Object.{Object}
use Rattle.lookup.specs.Found.{Absent, Found}
use Rattle.object.specs.declared.key.Key.{Key}
use Rattle.object_store.specs.declared.kept.Kept.{Kept}
use Rattle.object_store.specs.Objects.{Objects, key_of, found}
use Rattle.object_store.specs.Tables.{has_key, same_key}
use Rattle.object_store.proofs.Keys.{same_file, same_part, same_itself}
use Rattle.object_store.proofs.Nothing.{no_kept}

same_key_is : (j k : Key) → same_key j k ≡ true → j ≡ k
same_key_is j k t = ap₂ (λ (f p : ℕ). record { file = f; part = p }) (same_file j k t) (same_part j k t)

other_key : (j k : Key) → (j ≡ k → ⊥) → same_key j k ≡ false
other_key j k ne = elim (cases_Bool (same_key j k)) [ inl t ↦ absurd (ne (same_key_is j k t)) | inr f ↦ f ]

pub found_at : (os : Objects) (k : Key) (i : ℕ) (d : Kept) → Found key_of os k (Some i) → Some (get_or os i d).object ≡ found os k
found_at [] k i d f = absurd (let h = f.0 in omega (arith, h))
found_at (o ∷ os) k zero d f =
    ap (λ (b : Bool). cond b (Some o.object) (found os k)) (sym (same_itself k) ∙ ap (λ (j : Key). same_key j k) (sym (f.1 d)))
found_at (o ∷ os) k (suc i) d f =
    found_at os k i d (let h = f.0 in omega (arith, h), f.1, λ n e l. f.2 (suc n) e (omega arith))
    ∙ ap (λ (b : Bool). cond b (Some o.object) (found os k)) (sym (other_key o.key k (f.2 0 o (omega arith))))

pub found_none : (os : Objects) (k : Key) → Found key_of os k None → None ≡ found os k
found_none [] k f = refl
found_none (o ∷ os) k f =
    found_none os k (λ n e l. f (suc n) e (omega arith)) ∙ ap (λ (b : Bool). cond b (Some o.object) (found os k)) (sym (other_key o.key k (f 0 o (omega arith))))

-- what is read at the place that is found, if one is
pub found_through : (os : Objects) (k : Key) (i : Option ℕ) (r : Option Object) (P : ℕ → Object → Type 0) → ((n : ℕ) (v : Object) → P n v → v ≡ (get_or os n no_kept).object)
    → Found key_of os k i → MatchOption i (r ≡ None) (λ n. IsSomeAnd r (P n)) → r ≡ found os k
found_through os k None r P reads f h = h ∙ found_none os k f
found_through os k (Some n) (Some v) P reads f h = ap Some (reads n v h) ∙ found_at os k n no_kept f
found_through os k (Some n) None P reads f h = absurd h

module _ {R : Type 0} (key : R → Key) (k : Key) where
  there : (xs : List R) (i : ℕ) → i < length xs → ((d : R) → key (get_or xs i d) ≡ k) → true ≡ has_key (map key xs) k
  there [] i h is = absurd (omega arith)
  there (x ∷ xs) zero h is = sym (or_left (same_key (key x) k) (has_key (map key xs) k) (ap (λ (j : Key). same_key j k) (is x) ∙ same_itself k))
  there (x ∷ xs) (suc i) h is = sym (or_right (same_key (key x) k) (has_key (map key xs) k) (sym (there xs i (omega arith) is)))

  nowhere : (xs : List R) → Absent key xs k (length xs) → false ≡ has_key (map key xs) k
  nowhere [] none = refl
  nowhere (x ∷ xs) none =
      sym (or_from (same_key (key x) k) (has_key (map key xs) k) (other_key (key x) k (none 0 x (omega arith))) (sym (nowhere xs (λ n d l. none (suc n) d (omega arith)))))

  -- a key is found exactly where it is had
  pub found_has : (xs : List R) (o : Option ℕ) → Found key xs k o → is_some o ≡ has_key (map key xs) k
  found_has xs None f = nowhere xs f
  found_has xs (Some i) f = there xs i f.0 f.1
