-- Two logs that count the same pages tell the same.
use Rattle.std.proofs.Common.{◌≡◌, ℕ, subst, arith}
use Rattle.object.specs.declared.key.Key.{Key}
use Rattle.object.specs.declared.value.Object.{Object}
use Rattle.replay.specs.Log.{Log, Logged, entry_key, floor_of, Complete, Counts, Shown, Told, Top, Tells, Distinct, Same}

-- what is told of one set of counted pages is told of the other
abbrev pub Alike : Log → Log → Type 0
Alike C D = (k : Key) (v : Object) → (Told C k v → Told D k v) × (Told D k v → Told C k v)

-- a way from what is shown to what is shown is one from what is told to what is told
pub told_by : {C D : Log} → ((k : Key) (v : Object) → Shown C k v → Shown D k v) → (k : Key) (v : Object) → Told C k v → Told D k v
told_by h k v t = record { shown = h k v t.shown; entry = t.entry; alive = h (entry_key k.file) t.entry t.alive }

-- the same counted pages show the same
pub shown_same : {C D : Log} → ((p : Logged) → C p → D p) → ((p : Logged) → D p → C p) → (k : Key) (v : Object) → Shown C k v → Shown D k v
shown_same {C} {D} to from k v s =
    record { by = s.by; counted = to s.by s.counted; gives = s.gives; last = λ q d h l. s.last q (from q d) h l }

pub alike_same : {C D : Log} → ((p : Logged) → C p → D p) → ((p : Logged) → D p → C p) → Alike C D
alike_same to from k v = (told_by (shown_same to from) k v, told_by (shown_same from to) k v)

pub alike_trans : {C D E : Log} → Alike C D → Alike D E → Alike C E
alike_trans a b k v = (λ t. (b k v).0 ((a k v).0 t), λ t. (a k v).1 ((b k v).1 t))

pub alike_sym : {C D : Log} → Alike C D → Alike D C
alike_sym a k v = ((a k v).1, (a k v).0)

pub complete_more : {L M : Log} → ((p : Logged) → L p → M p) → (p : Logged) → Complete L p → Complete M p
complete_more h p w k lt = let (q, here, part) = w k lt in (q, h q here, part)

pub one_top : (L : Log) → Distinct L → (p q : Logged) → Top L p → Top L q → p ≡ q
one_top L d p q tp tq = d p q tp.here tq.here (omega (arith, tp.highest q tq.here, tq.highest p tp.here))

pub the_floor : (L : Log) → Distinct L → (t : Logged) → Top L t → (k : Key) (v : Object) → Tells L k v → Told (Counts L (floor_of t)) k v
the_floor L d t tl k v s = subst (λ (p : Logged). Told (Counts L (floor_of p)) k v) (one_top L d s.top t s.is_top tl) s.told

-- with the top pages known, alike is the same
pub same_top : {L M : Log} (t u : Logged) → Distinct L → Distinct M → Top L t → Top M u → Alike (Counts L (floor_of t)) (Counts M (floor_of u)) → Same L M
same_top {L} {M} t u dl dm tl tm a k v = (
  λ s. record { top = u; is_top = tm; told = (a k v).0 (the_floor L dl t tl k v s) },
  λ s. record { top = t; is_top = tl; told = (a k v).1 (the_floor M dm u tm k v s) },
)

-- the same pages, the same told
pub same_logs : {L M : Log} → ((p : Logged) → L p → M p) → ((p : Logged) → M p → L p) → Same L M
same_logs {L} {M} to from k v = (one to from k v, one from to k v)
  where
    counts : {A B : Log} → ((p : Logged) → A p → B p) → (f : ℕ) (p : Logged) → Counts A f p → Counts B f p
    counts h f p c = record { here = h p c.here; high = c.high; whole = complete_more h p c.whole }

    one : {A B : Log} → ((p : Logged) → A p → B p) → ((p : Logged) → B p → A p) → (k : Key) (v : Object) → Tells A k v → Tells B k v
    one {A} {B} h g k v s =
        record {
          top = s.top;
          is_top = record { here = h s.top s.is_top.here; highest = λ p b. s.is_top.highest p (g p b) };
          told = (alike_same (counts h (floor_of s.top)) (counts g (floor_of s.top)) k v).0 s.told;
        }
