-- Counting entries by index.
use Rattle.std.proofs.Common.{◌≡◌, ℕ, zero, suc, ◌+◌, ◌≤◌, Bool, true, false, cond, List, [], ◌∷◌, length, drop, Ok, Err, Result, sym, refl, ap, ◌∙◌, arith}
use Rattle.std.proofs.lemmas.List.{drop_all}
use Rattle.object.specs.declared.key.Key.{Key}
use Rattle.flash.specs.declared.fault.FlashFault.TheVariants.{Off}
use Rattle.object_store.specs.declared.fault.ObjectFault.{ObjectFault}
use Rattle.object_store.specs.declared.fault.ObjectFault.TheVariants.{Flash}
use Rattle.object_store.specs.Says.{told}
use Rattle.object_store.specs.Shelf.{Shelf, key_at}
use Rattle.object_store.specs.Uses.{some_entry, entries_in}

step : (ks : List Key) (i : ℕ) → entries_in (drop i ks) ≡ cond (some_entry (key_at ks i)) 1 0 + entries_in (drop (suc i) ks)
step [] zero = refl
step [] (suc i) = refl
step (k ∷ ks) zero = refl
step (k ∷ ks) (suc i) = step ks i

one_at_most : (b : Bool) → cond b 1 0 ≤ 1
one_at_most true = omega arith
one_at_most false = omega arith

pub entries_more : (ks : List Key) (i n m : ℕ) (b : Bool) → (n ≤ i) × (n + entries_in (drop i ks) ≡ entries_in ks) → b ≡ some_entry (key_at ks i) → m ≡ n + cond b 1 0
    → (m ≤ i + 1) × (m + entries_in (drop (i + 1) ks) ≡ entries_in ks)
entries_more ks i n m b inv is e =
    let s = step ks i ∙ ap (λ (t : Bool). cond t 1 0 + entries_in (drop (suc i) ks)) (sym is) in
    let d = ap (λ j. entries_in (drop j ks)) (let q : i + 1 ≡ suc i = omega arith in q) in
    let low = one_at_most b in
    (omega (arith, inv.0, low), omega (arith, inv.1, s, d))

-- what is told is told with power on
told_by : {A : Type 0} (on : Bool) (a x : A) → ◌≡◌ {A = Result A ObjectFault} (Ok x) (cond on (Ok a) (Err (Flash Off))) → (on ≡ true) × (x ≡ a)
told_by true a x e = (refl, cc)
told_by false a x e = absurd (let z : ◌≡◌ {A = ℕ} 0 1 = cc in omega arith)

pub told_is : {A : Type 0} (s : Shelf) (a x : A) → Ok x ≡ told s a → (s.on ≡ true) × (x ≡ a)
told_is s a x e = told_by s.on a x e

pub tells : {A : Type 0} (s : Shelf) (a : A) → s.on ≡ true → told s a ≡ Ok a
tells s a on = ap (λ (b : Bool). cond b (Ok a) (Err (Flash Off))) on

pub entries_all : (ks : List Key) (i n : ℕ) → length ks ≤ i → (n ≤ i) × (n + entries_in (drop i ks) ≡ entries_in ks) → n ≡ entries_in ks
entries_all ks i n h inv = let e = ap entries_in (drop_all i ks h) in omega (arith, inv.1, e)
