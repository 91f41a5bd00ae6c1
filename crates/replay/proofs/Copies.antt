-- A copy, one page above all others that says again what is told, changes nothing told: for any logs.
use Rattle.std.proofs.Common.{◌≡◌, ℕ, ◌<◌, ◌≤◌, ◌⊎◌, sym, refl, ap, subst, inl, inr, arith}
use mathlib.Core.List.Memᴰ
use Rattle.object.specs.declared.key.Key.{Key}
use Rattle.object.specs.declared.value.Object.{Object}
use Rattle.replay.specs.Log.{Log, Logged, number_of, floor_of, index_of, size_of, Gives, Counts, Shown, Told, Top, Distinct, Same}
use Rattle.replay.specs.Changes.{On, Added, Group, Rises, High, Echo}
use Rattle.replay.specs.Crashes.{Copy}
use Rattle.replay.proofs.Base.{Alike, alike_trans, same_top}
use Rattle.replay.proofs.Agree.{agree, agree_high, shown_once}
use Rattle.replay.proofs.Counting.{risen, whole_from, whole_to}
use Rattle.replay.proofs.Putting.{key_dec}

-- the one page
abbrev pub Only : Logged → Log
Only c p = p ≡ c

module _ (L M : Log) (t c : Logged) (added : Added L (Only c) M) (below : (p : Logged) → L p → number_of p < number_of c)
    (first : index_of c ≡ 0) (alone : size_of c ≡ 1) (e : Echo (Counts L (floor_of t)) c) (low : floor_of t ≤ floor_of c)
    (fine : floor_of c ≤ number_of c) where
  abbrev C : Log
  C = Counts L (floor_of t)

  abbrev D : Log
  D = Counts M (floor_of t)

  group : Group L (Only c) (number_of c) 1
  group =
      record {
        below = below;
        numbered = λ p m. omega (arith, ap number_of m, ap index_of m);
        sized = λ p m. omega (arith, ap size_of m);
      }

  filled : (k : ℕ) → k < 1 → (q : Logged) × Only c q × (index_of q ≡ k)
  filled k lt = (c, refl, omega arith)

  copy_to : (p : Logged) → C p ⊎ Only c p → D p
  copy_to = whole_to L (Only c) M (number_of c) 1 added group (floor_of t) (omega arith) filled

  copy_from : (p : Logged) → D p → C p ⊎ Only c p
  copy_from = whole_from L (Only c) M (number_of c) 1 added group (floor_of t) (omega arith) filled

  copy_more : (p : Logged) → C p → D p
  copy_more p h = copy_to p (inl h)

  copy_echo : (p : Logged) → D p → C p ⊎ Echo C p
  copy_echo p h = elim (copy_from p h) [ inl a ↦ inl a | inr m ↦ inr (subst (λ (q : Logged). Echo C q) (sym m) e) ]

  copy_alike : Alike C D
  copy_alike = agree C D copy_more copy_echo

  -- the copy itself shows its key
  by_copy : High D (floor_of c) e.key e.object
  by_copy =
      record {
        shown = record {
          by = c;
          counted = copy_to c (inr refl);
          gives = e.gives;
          last = λ q d s l.
              elim (copy_from q d) [
                | inl a ↦ absurd (omega (arith, below q a.here))
                | inr m ↦ subst (λ (r : Logged). Gives r e.key e.object) (sym m) e.gives
              ];
        };
        high = fine;
      }

  copy_rises : ((k : Key) (v : Object) → (k ≡ e.key → ⊥) → Told C k v → High C (floor_of c) k v) → Rises M (floor_of t) (floor_of c)
  copy_rises others = record { up = low; kept = λ k v told. go k v told (key_dec k e.key) }
    where
      go : (k : Key) (v : Object) → Told D k v → Dec (k ≡ e.key) → High D (floor_of c) k v
      go k v told (no n) = agree_high C D copy_more copy_echo (floor_of c) k v (others k v n ((copy_alike k v).1 told))
      go k v told (yes s) =
          let there : Shown D e.key v = subst (λ (j : Key). Shown D j v) s told.shown in
          let same : e.object ≡ v = shown_once e.key e.object v by_copy.shown there in
          subst (λ (j : Key). High D (floor_of c) j v) (sym s) (subst (λ (w : Object). High D (floor_of c) e.key w) same by_copy)

  -- the copy is the new top page
  pub copy_top : Top M c
  copy_top =
      record {
        here = added.new c refl;
        highest = λ p m. elim (added.only p m) [ inl a ↦ omega (arith, below p a) | inr s ↦ omega (arith, ap number_of s) ];
      }

  pub copied_keeps : Distinct L → Distinct M → Top L t
      → ((k : Key) (v : Object) → (k ≡ e.key → ⊥) → Told C k v → High C (floor_of c) k v) → Same L M
  copied_keeps dl dm tl others =
      same_top t c dl dm tl copy_top (alike_trans copy_alike (risen M (floor_of t) (floor_of c) (copy_rises others)))

pub copy : Copy
copy xs ys t c dx dy tx added below first alone e low fine others =
    copied_keeps (On xs) (On ys) t c (record {
      only = λ p m. elim (added.only p m) [ inl a ↦ inl a | inr s ↦ inr (Memᴰ.eq_of_singleton s) ];
      old = added.old;
      new = λ p s. added.new p (Memᴰ.head s);
    }) below first alone e low fine dx dy tx others
