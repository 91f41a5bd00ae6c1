-- A record put where the lower ones end.
use Rattle.std.proofs.Common.{◌≡◌, ℕ, zero, suc, ◌+◌, ◌<◌, ◌≤◌, Bool, true, false, cond, List, [], ◌∷◌, length, get_or, take, Option, Some, None, Ok, Err, Bor, set, sym, refl, ap, ◌∙◌, subst, ap₂, inl, inr, arith, length-set}
use lib.Seq.{take-set-lt}
use Rattle.std.specs.List.{insert, HoldsAt}
use Rattle.std.specs.Option.{IfSome, IsSome, MatchOption}
use Rattle.std.proofs.lemmas.List.Edits.{length-insert}
use Rattle.std.proofs.lemmas.List.{length-take-le, get_or_default}
use Rattle.std.proofs.lemmas.Bool.{lt-ltb, le-ltb, false≢true}
use Rattle.lookup.specs.declared.sorted.Unplaced.{Unplaced}
use Rattle.lookup.specs.declared.sorted.Unplaced.TheVariants.{Taken, Full}
use Rattle.lookup.specs.Inserts.{Inserts, Leads}
use Rattle.object.specs.Rank.{key_rank}
use Rattle.object.specs.declared.key.Key.{Key}
use Rattle.object_store.specs.Edits.{Puts}
use Rattle.object_store.specs.Tables.{same_key, put_in}

module _ {R : Type 0} (key : R → Key) (x : R) where
  abbrev Lower : List R → ℕ → Type 0
  Lower ys n = (k : ℕ) (d : R) → k < n → key_rank (key (get_or ys k d)) < key_rank (key x)

  abbrev Next : List R → ℕ → Type 0
  Next ys n = (d : R) → n < length ys → key_rank (key x) ≤ key_rank (key (get_or ys n d))

  -- past a lower record
  past : (y : R) (ys : List R) → key_rank (key y) < key_rank (key x) → put_in key (y ∷ ys) x ≡ y ∷ put_in key ys x
  past y ys l = ap (λ (b : Bool). cond b (y ∷ put_in key ys x) (cond (same_key (key y) (key x)) (x ∷ ys) (x ∷ (y ∷ ys)))) (lt-ltb (key_rank (key y)) (key_rank (key x)) l)

  -- at a record that is not lower
  here : (y : R) (ys : List R) (s : Bool) → key_rank (key x) ≤ key_rank (key y) → same_key (key y) (key x) ≡ s → put_in key (y ∷ ys) x ≡ cond s (x ∷ ys) (x ∷ (y ∷ ys))
  here y ys s l e = ap₂ (λ (b t : Bool). cond b (y ∷ put_in key ys x) (cond t (x ∷ ys) (x ∷ (y ∷ ys)))) (le-ltb (key_rank (key y)) (key_rank (key x)) l) e

  pub put_new : (ys : List R) (n : ℕ) → n ≤ length ys → Lower ys n → Next ys n → ((d : R) → n < length ys → same_key (key (get_or ys n d)) (key x) ≡ false) → put_in key ys x ≡ insert ys n x
  put_new [] zero h low next other = refl
  put_new [] (suc n) h low next other = absurd (omega arith)
  put_new (y ∷ ys) zero h low next other = here y ys false (next x (omega arith)) (other x (omega arith))
  put_new (y ∷ ys) (suc n) h low next other =
      past y ys (low 0 x (omega arith))
      ∙ ap (λ (zs : List R). y ∷ zs) (put_new ys n (omega arith) (λ k d l. low (suc k) d (omega arith)) (λ d l. next d (omega arith)) (λ d l. other d (omega arith)))

  pub put_over : (ys : List R) (n : ℕ) → n < length ys → Lower ys n → Next ys n → ((d : R) → same_key (key (get_or ys n d)) (key x) ≡ true) → put_in key ys x ≡ set ys n x
  put_over [] n h low next same = absurd (omega arith)
  put_over (y ∷ ys) zero h low next same = here y ys true (next x (omega arith)) (same x)
  put_over (y ∷ ys) (suc n) h low next same =
      past y ys (low 0 x (omega arith))
      ∙ ap (λ (zs : List R). y ∷ zs) (put_over ys n (omega arith) (λ k d l. low (suc k) d (omega arith)) (λ d l. next d (omega arith)) same)

  -- whether the record at i is there and has the key
  pub record Tells (ys : List R) (i : ℕ) (b : Bool) : Type 0 where
    pub there : b ≡ true → i < length ys
    pub same : (d : R) → i < length ys → same_key (key (get_or ys i d)) (key x) ≡ b

  pub tells : (ys : List R) (i : ℕ) (o : Option (Bor R)) (b : Bool) (P : Bor R → Type 0)
      → IfSome o (λ y. y.now ≡ get_or ys i y.now) → (i < length ys → IsSome o) → MatchOption o (length ys ≤ i) (λ y. (i < length ys) × HoldsAt (λ z. y.now ≡ z) ys i)
      → MatchOption o (b ≡ false) P → ((y : Bor R) → P y → b ≡ same_key (key y.now) (key x)) → Tells ys i b
  tells ys i None b P is there where_ says by = record { there = λ t. absurd (false≢true (sym says ∙ t)); same = λ d h. absurd (false≢true (there h)) }
  tells ys i (Some y) b P is there where_ says by =
      record {
        there = λ t. where_.0;
        same = λ d h. ap (λ r. same_key (key r) (key x)) (get_or_default ys i d y.now h ∙ sym is) ∙ sym (by y says);
      }

  -- the first len of the table xs, of which `at` lead with a lower key
  module _ (xs : List R) (len at than : ℕ) (within : len ≤ length xs) (is : than ≡ key_rank (key x)) (leads : Leads (λ (r : R). key_rank (key r)) (take len xs) than at) where
    led : Leads (λ (r : R). key_rank (key r)) (take len xs) (key_rank (key x)) at
    led = subst (λ r. Leads (λ (r : R). key_rank (key r)) (take len xs) r at) is leads

    first : length (take len xs) ≡ len
    first = length-take-le len xs within

    pub puts_over : Tells (take len xs) at true → Puts key xs len x len (set xs at x)
    puts_over told =
        let l = told.there refl in
        let over = put_over (take len xs) at l led.below led.next (λ d. told.same d l) in
        let long = ap length over ∙ length-set (take len xs) at x in
        record {
          long = length-set xs at x;
          put = λ room. take-set-lt len xs at x (omega (arith, l, first)) ∙ sym over;
          count = λ room. omega (arith, long, first);
          full = λ none. absurd (omega (arith, long, first));
        }

    module _ (told : Tells (take len xs) at false) where
      new : put_in key (take len xs) x ≡ insert (take len xs) at x
      new = put_new (take len xs) at led.within led.below led.next told.same

      longer : length (put_in key (take len xs) x) ≡ len + 1
      longer = ap length new ∙ length-insert (take len xs) at x led.within ∙ ap (λ n. n + 1) first

      pub puts_new : (u : Unit {0}) (ys : List R) → Inserts xs len at x (Ok u) ys → Puts key xs len x (len + 1) ys
      puts_new u ys ins =
          record {
            long = ins.2;
            put = λ room. ins.3 ∙ sym new;
            count = λ room. sym longer;
            full = λ none. absurd (omega (arith, longer, ins.0));
          }

      pub puts_none : (e : Unplaced) (ys : List R) → Inserts xs len at x (Err e) ys → Puts key xs len x len ys
      puts_none Taken ys ins = absurd ins
      puts_none Full ys ins =
          let no : length xs ≤ len = elim ins.0 [ inl h ↦ h | inr h ↦ absurd (omega (arith, led.within, first)) ] in
          record {
            long = ap length ins.1;
            put = λ room. absurd (omega (arith, longer));
            count = λ room. absurd (omega (arith, longer));
            full = λ none. (ins.1, refl);
          }
