-- Counting the changes that bring a new key, each with the changes before it.
use Rattle.std.proofs.Common.{◌≡◌, ℕ, ◌+◌, Bool, true, false, cond, List, [], ◌∷◌, ◌++◌, length, take, filter, refl, ap, sym, ◌∙◌, arith, append_assoc, length-append}
use Rattle.std.proofs.Math.Seq.{take-append_seam}
use Rattle.std.specs.List.{enumerate_from}
use Rattle.object.specs.declared.key.Key.{Key}
use Rattle.object_store.specs.declared.change.Change.{Change}
use Rattle.object_store.specs.Counts.{brings, brought}

length_more : {X : Type 0} (b : Bool) (x : X) (xs : List X) → length (cond b (x ∷ xs) xs) ≡ cond b 1 0 + length xs
length_more true x xs = omega arith
length_more false x xs = omega arith

module _ (ks : List Key) (all : List Change) where
  abbrev Brings : ℕ × Change → Bool
  Brings p = brings ks all (take p.0 all) p.1

  -- of the changes from their places on
  brought_on : (earlier cs : List Change) → all ≡ earlier ++ cs → length (filter Brings (enumerate_from (length earlier) cs)) ≡ brought ks all earlier cs
  brought_on earlier [] e = refl
  brought_on earlier (c ∷ cs) e =
      let rest = brought_on (earlier ++ c ∷ []) cs (e ∙ sym (append_assoc earlier (c ∷ []) cs)) in
      let on : length earlier + 1 ≡ length (earlier ++ c ∷ []) = sym (length-append earlier (c ∷ [])) in
      let here : take (length earlier) all ≡ earlier = ap (take (length earlier)) e ∙ take-append_seam earlier (c ∷ cs) in
      length_more (Brings (length earlier, c)) (length earlier, c) (filter Brings (enumerate_from (length earlier + 1) cs))
      ∙ ap (λ (xs : List Change). cond (brings ks all xs c) 1 0 + length (filter Brings (enumerate_from (length earlier + 1) cs))) here
      ∙ ap (λ (n : ℕ). cond (brings ks all earlier c) 1 0 + length (filter Brings (enumerate_from n cs))) on
      ∙ ap (λ (n : ℕ). cond (brings ks all earlier c) 1 0 + n) rest

  pub brought_paired : length (filter (λ (p : ℕ × Change). brings ks all (take p.0 all) p.1) (enumerate_from 0 all)) ≡ brought ks all [] all
  brought_paired = brought_on [] all refl
