-- The answer to a batch, from the tests that look at keys alone.
use Rattle.std.proofs.Common.{◌≡◌, ℕ, ◌+◌, ◌<◌, ◌≤◌, Bool, true, false, cond, ◌&&◌, ltb, leb, List, [], ◌∷◌, length, Ok, Err, Result, sym, refl, ap, ◌∙◌, subst, ap₂, arith}
use Rattle.std.proofs.lemmas.Bool.{and_parts, leb-true, lt-ltb, le-ltb, ltb-false}
use Rattle.object.specs.declared.key.Key.{Key}
use Rattle.object_store.specs.declared.change.Change.{Change}
use Rattle.object_store.specs.declared.change.Change.TheVariants.{Set, Remove}
use Rattle.object_store.specs.declared.fault.ObjectFault.{ObjectFault}
use Rattle.object_store.specs.declared.fault.ObjectFault.TheVariants.{Unfit, Full, Spent}
use Rattle.object_store.specs.Tables.{Rising}
use Rattle.object_store.specs.Changes.{change_fits, in_order}
use Rattle.object_store.specs.Counts.{staying, brought, all_stand}
use Rattle.object_store.specs.Fit.{count_fits, known, each_fits, rooted, fit, verdict}
use Rattle.object_store.specs.Objects.{Objects, keys_of, after_batch}
use Rattle.object_store.specs.Settled.{Placeable}
use Rattle.object_store.proofs.Growing.{count_after}
use Rattle.object_store.proofs.Rooting.{rooted_after}
use Rattle.object_store.proofs.Settling.{fits_placeable}

pub placeable : (ks : List Key) (unused : ℕ) (cs : List Change) → each_fits ks unused cs ≡ true → Placeable cs
placeable ks unused [] t = tt
placeable ks unused (Set k v ∷ cs) t =
    let parts = and_parts (change_fits (Set k v) && known ks unused k.file) (each_fits ks unused cs) t in
    let here = fits_placeable k v (and_parts (change_fits (Set k v)) (known ks unused k.file) parts.0).0 in
    (here.0, here.1, placeable ks unused cs parts.1)
placeable ks unused (Remove f ∷ cs) t = placeable ks unused cs (and_parts (change_fits (Remove f) && known ks unused f) (each_fits ks unused cs) t).1

-- what a fit batch is known to be
pub record Fitting (os : Objects) (unused : ℕ) (cs : List Change) : Type 0 where
  pub ordered : in_order cs ≡ true
  pub placed : Placeable cs
  pub each : each_fits (keys_of os) unused cs ≡ true
  pub entries : rooted (keys_of (after_batch os cs)) ≡ true

pub fitting : (os : Objects) (unused : ℕ) (cs : List Change) → fit os unused cs ≡ true → Fitting os unused cs
fitting os unused cs t =
    let a = and_parts (count_fits cs && each_fits (keys_of os) unused cs && in_order cs) (rooted (keys_of (after_batch os cs))) t in
    let b = and_parts (count_fits cs && each_fits (keys_of os) unused cs) (in_order cs) a.0 in
    let d = and_parts (count_fits cs) (each_fits (keys_of os) unused cs) b.0 in
    record { ordered = b.1; placed = placeable (keys_of os) unused cs d.1; each = d.1; entries = a.1 }

under : (x y z : Bool) → (x ≡ true → y ≡ z) → (x && y) ≡ (x && z)
under true y z e = e refl
under false y z e = refl

-- the tests on keys decide whether a batch is fit
abbrev pub fit_keys : List Key → ℕ → List Change → Bool
fit_keys ks unused cs = count_fits cs && each_fits ks unused cs && in_order cs && all_stand ks cs cs

pub fit_is : (os : Objects) (unused : ℕ) (cs : List Change) → rooted (keys_of os) ≡ true → fit_keys (keys_of os) unused cs ≡ fit os unused cs
fit_is os unused cs good =
    under (count_fits cs && each_fits (keys_of os) unused cs && in_order cs) (all_stand (keys_of os) cs cs) (rooted (keys_of (after_batch os cs)))
    (λ t. rooted_after cs os (and_parts (count_fits cs && each_fits (keys_of os) unused cs) (in_order cs) t).1 good)

pub few_changes : (ks : List Key) (unused : ℕ) (cs : List Change) → true ≡ fit_keys ks unused cs → length cs ≤ 4
few_changes ks unused cs t =
    let a = and_parts (count_fits cs && each_fits ks unused cs && in_order cs) (all_stand ks cs cs) (sym t) in
    let b = and_parts (count_fits cs && each_fits ks unused cs) (in_order cs) a.0 in
    let d = and_parts (count_fits cs) (each_fits ks unused cs) b.0 in
    leb-true (length cs) 4 (and_parts (leb 1 (length cs)) (leb (length cs) 4) d.0).1

-- a table with the keys ks of the map
module _ (os : Objects) (ks : List Key) (e : keys_of os ≡ ks) (limit unused : ℕ) (spent : Bool) (cs : List Change) (rises : Rising ks) (entries : rooted ks ≡ true) where
  abbrev on_fit : Bool → Result (Unit {0}) ObjectFault
  on_fit b = cond b (cond (ltb limit (length (after_batch os cs))) (Err Full) (cond spent (Err Spent) (Ok tt))) (Err Unfit)

  fits_so : (b : Bool) → b ≡ fit_keys ks unused cs → b ≡ fit os unused cs
  fits_so b t = t ∙ ap (λ js. fit_keys js unused cs) (sym e) ∙ fit_is os unused cs (ap rooted e ∙ entries)

  counted : true ≡ fit_keys ks unused cs → length (after_batch os cs) ≡ staying cs ks + brought ks cs [] cs
  counted t =
      let f = fitting os unused cs (sym (fits_so true t)) in
      count_after cs os (subst Rising (sym e) rises) f.placed f.ordered ∙ ap (λ js. staying cs js + brought js cs [] cs) e

  pub unfit : false ≡ fit_keys ks unused cs → Err Unfit ≡ verdict os limit unused spent cs
  unfit f = ap on_fit (fits_so false f)

  judged : (full spend : Bool) → true ≡ fit_keys ks unused cs → full ≡ ltb limit (staying cs ks + brought ks cs [] cs) → spend ≡ spent
      → cond full (Err Full) (cond spend (Err Spent) (Ok tt)) ≡ verdict os limit unused spent cs
  judged full spend t u s =
      ap₂ (λ (a b : Bool). cond a (Err Full) (cond b (Err Spent) (Ok tt))) (u ∙ ap (ltb limit) (sym (counted t))) s ∙ ap on_fit (fits_so true t)

  pub full : true ≡ fit_keys ks unused cs → limit < staying cs ks + brought ks cs [] cs → Err Full ≡ verdict os limit unused spent cs
  full t u = judged true spent t (sym (lt-ltb limit (staying cs ks + brought ks cs [] cs) u)) refl

  pub is_spent : true ≡ fit_keys ks unused cs → staying cs ks + brought ks cs [] cs ≤ limit → spent ≡ true → Err Spent ≡ verdict os limit unused spent cs
  is_spent t u s = judged false true t (sym (le-ltb limit (staying cs ks + brought ks cs [] cs) u)) (sym s)

  pub passed : true ≡ fit_keys ks unused cs → staying cs ks + brought ks cs [] cs ≤ limit → spent ≡ false → Ok tt ≡ verdict os limit unused spent cs
  passed t u s = judged false false t (sym (le-ltb limit (staying cs ks + brought ks cs [] cs) u)) (sym s)

-- what a batch that is not refused is known to be
pub record Passing (os : Objects) (limit unused : ℕ) (cs : List Change) : Type 0 where
  pub fits : Fitting os unused cs
  pub few : length (after_batch os cs) ≤ limit

grounds : (a b d : Bool) → ◌≡◌ {A = Result (Unit {0}) ObjectFault} (cond a (cond b (Err Full) (cond d (Err Spent) (Ok tt))) (Err Unfit)) (Ok tt) → (a ≡ true) × (b ≡ false)
grounds true true d e = absurd (let z : ◌≡◌ {A = ℕ} 0 1 = cc in omega arith)
grounds true false d e = (refl, refl)
grounds false b d e = absurd (let z : ◌≡◌ {A = ℕ} 0 1 = cc in omega arith)

pub passing : (os : Objects) (limit unused : ℕ) (spent : Bool) (cs : List Change) → verdict os limit unused spent cs ≡ Ok tt → Passing os limit unused cs
passing os limit unused spent cs e =
    let g = grounds (fit os unused cs) (ltb limit (length (after_batch os cs))) spent e in
    record { fits = fitting os unused cs g.0; few = ltb-false limit (length (after_batch os cs)) g.1 }
