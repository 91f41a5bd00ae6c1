-- One page above all others, and pages above all others in order: what is told is the map with those put into it.
use Rattle.std.proofs.Common.{◌≡◌, ℕ, zero, suc, ◌<◌, ◌≤◌, ◌⊎◌, List, [], ◌∷◌, sym, refl, ap, subst, inl, inr, arith}
use mathlib.Core.List.Memᴰ
use Rattle.object.specs.declared.key.Key.{Key}
use Rattle.object.specs.declared.value.Object.{Object}
use Rattle.object.specs.declared.value.Object.TheVariants as object
use Rattle.page.specs.declared.fields.Entry.{Entry}
use Rattle.page.specs.declared.fields.Content.{Content}
use Rattle.page.specs.declared.fields.Content.TheVariants.{Note, Gone}
use Rattle.page.specs.declared.fields.Content.TheVariants as content
use Rattle.replay.specs.Log.{Log, Logged, number_of, entry_key, chunk_key, SpeaksBy, GivesBy, Speaks, Gives, Shown, Told}
use Rattle.replay.specs.Changes.{On}
use Rattle.replay.specs.Maps.{Map, PutBy, Put, Puts}
use Rattle.replay.specs.Walks.{Step, With, FitBy, Fit, Fits, Rising}
use Rattle.replay.proofs.Agree.{gives_speaks}

pub key_dec : (k j : Key) → Dec (k ≡ j)
key_dec k j = grind arith

speaks_by_dec : (file : ℕ) (c : Content) (k : Key) → Dec (SpeaksBy file c k)
speaks_by_dec file Note k = no (λ h. h)
speaks_by_dec file (content.Entry e) k = key_dec k (entry_key file)
speaks_by_dec file (content.Chunk c) k = key_dec k (chunk_key file c.index)
speaks_by_dec file Gone k = key_dec k (entry_key file)

pub speaks_dec : (p : Logged) (k : Key) → Dec (Speaks p k)
speaks_dec p k = speaks_by_dec p.page.header.file p.page.content k

-- what is shown after one page above all others
module _ (C : Log) (p : Logged) (above : (q : Logged) → C q → number_of q < number_of p) where
  pub step_to : (k : Key) (v : Object) → Shown (With C p) k v → Step (Shown C) p k v
  step_to k v s = go (speaks_dec p k)
    where
      le : With C p s.by → number_of s.by ≤ number_of p
      le (inl c) = omega (arith, above s.by c)
      le (inr e) = omega (arith, ap number_of e)

      old : (Speaks p k → ⊥) → With C p s.by → C s.by
      old n (inl c) = c
      old n (inr e) = absurd (n (subst (λ (q : Logged). Speaks q k) e (gives_speaks s.by k v s.gives)))

      go : Dec (Speaks p k) → Step (Shown C) p k v
      go (yes h) = inl (s.last p (inr refl) h (le s.counted))
      go (no n) = inr (n, record { by = s.by; counted = old n s.counted; gives = s.gives; last = λ q c h l. s.last q (inl c) h l })

  pub step_from : (k : Key) (v : Object) → Step (Shown C) p k v → Shown (With C p) k v
  step_from k v (inl g) =
      record {
        by = p;
        counted = inr refl;
        gives = g;
        last = λ q c h l. elim c [ inl c ↦ absurd (omega (arith, above q c)) | inr e ↦ subst (λ (r : Logged). Gives r k v) (sym e) g ];
      }
  step_from k v (inr (n, s)) =
      record {
        by = s.by;
        counted = inl s.counted;
        gives = s.gives;
        last = λ q c sp l. elim c [ inl c ↦ s.last q c sp l | inr e ↦ absurd (n (subst (λ (r : Logged). Speaks r k) e sp)) ];
      }

-- the slots after what one page of a file says
abbrev StepBy : Map → ℕ → Content → Map
StepBy m file c k v = GivesBy file c k v ⊎ ((SpeaksBy file c k → ⊥) × m k v)

no_mix : (x y i : ℕ) → entry_key x ≡ chunk_key y i → ⊥
no_mix x y i e = omega (arith, ap (λ (k : Key). k.part) e)

-- a key that is not the entry of its file is a chunk of it
chunk_of : (k : Key) → (k ≡ entry_key k.file → ⊥) → (i : ℕ) × (k ≡ chunk_key k.file i)
chunk_of k n = go k.part refl
  where
    go : (m : ℕ) → k.part ≡ m → (i : ℕ) × (k ≡ chunk_key k.file i)
    go zero e = absurd (n (grind arith))
    go (suc i) e = (i, grind arith)

-- from what is shown to what is told: one page
told_to : (C : Log) (file : ℕ) (c : Content) → FitBy C file c → (k : Key) (v : Object) → StepBy (Shown C) file c k v → (n : Object)
    → StepBy (Shown C) file c (entry_key k.file) n → PutBy (Told C) file c k v
told_to C file Note fit k v (inl g) n b = absurd g
told_to C file Note fit k v (inr s) n (inl g) = absurd g
told_to C file Note fit k v (inr s) n (inr t) = record { shown = s.1; entry = n; alive = t.1 }
told_to C file (content.Entry e) fit k v (inl g) n b = inl g
told_to C file (content.Entry e) fit k v (inr s) n (inr t) = inr (s.0, record { shown = s.1; entry = n; alive = t.1 })
told_to C file (content.Entry e) fit k v (inr s) n (inl g) = inr (s.0, go fit)
  where
    same_file : k.file ≡ file
    same_file = ap (λ (j : Key). j.file) g.0

    go : FitBy C file (content.Entry e) → Told C k v
    go (inl (m, alive)) = record { shown = s.1; entry = m; alive = subst (λ (x : ℕ). Shown C (entry_key x) m) (sym same_file) alive }
    go (inr none) =
        let (i, h) = chunk_of k (λ w. s.0 (subst (λ (x : ℕ). k ≡ entry_key x) same_file w)) in
        absurd (none i v (subst (λ (j : Key). Shown C j v) (subst (λ (x : ℕ). k ≡ chunk_key x i) same_file h) s.1))
told_to C file (content.Chunk c) fit k v (inl g) n b = inl g
told_to C file (content.Chunk c) fit k v (inr s) n (inl g) = absurd (no_mix k.file file c.index g.0)
told_to C file (content.Chunk c) fit k v (inr s) n (inr t) = inr (s.0, record { shown = s.1; entry = n; alive = t.1 })
told_to C file Gone fit k v (inl g) n b = absurd g
told_to C file Gone fit k v (inr s) n (inl g) = absurd g
told_to C file Gone fit k v (inr s) n (inr t) = (λ e. t.0 (ap entry_key e), record { shown = s.1; entry = n; alive = t.1 })

record Both (C : Log) (file : ℕ) (c : Content) (k : Key) (v : Object) : Type 0 where
  one : StepBy (Shown C) file c k v
  named : Object
  two : StepBy (Shown C) file c (entry_key k.file) named

-- a key whose file is not x is not the entry of x
other_file : (k : Key) (x : ℕ) → (k.file ≡ x → ⊥) → k ≡ entry_key x → ⊥
other_file k x n e = n (ap (λ (j : Key). j.file) e)

told_from : (C : Log) (file : ℕ) (c : Content) → FitBy C file c → (k : Key) (v : Object) → PutBy (Told C) file c k v → Both C file c k v
told_from C file Note fit k v t = record { one = inr (λ h. h, t.shown); named = t.entry; two = inr (λ h. h, t.alive) }
told_from C file (content.Entry e) fit k v (inl g) =
    record { one = inl g; named = v; two = inl (ap (λ (j : Key). entry_key j.file) g.0, g.1) }
told_from C file (content.Entry e) fit k v (inr h) =
    elim (key_dec (entry_key k.file) (entry_key file)) [
      | yes same ↦ record { one = inr (h.0, h.1.shown); named = object.Entry e; two = inl (same, refl) }
      | no other ↦ record { one = inr (h.0, h.1.shown); named = h.1.entry; two = inr (other, h.1.alive) }
    ]
told_from C file (content.Chunk c) fit k v (inl g) =
    record {
      one = inl g;
      named = fit.0;
      two = inr (
        no_mix k.file file c.index,
        subst (λ (x : ℕ). Shown C (entry_key x) fit.0) (sym (ap (λ (j : Key). j.file) g.0)) fit.1,
      );
    }
told_from C file (content.Chunk c) fit k v (inr h) =
    record { one = inr (h.0, h.1.shown); named = h.1.entry; two = inr (no_mix k.file file c.index, h.1.alive) }
told_from C file Gone fit k v h =
    record {
      one = inr (other_file k file h.0, h.1.shown);
      named = h.1.entry;
      two = inr (other_file (entry_key k.file) file h.0, h.1.alive);
    }

abbrev pub Iff : Map → Map → Type 0
Iff m n = (k : Key) (v : Object) → (m k v → n k v) × (n k v → m k v)

told_put : (C : Log) (p : Logged) → ((q : Logged) → C q → number_of q < number_of p) → Fit C p → Iff (Told (With C p)) (Put (Told C) p)
told_put C p above fit k v = (
  λ t.
      told_to C p.page.header.file p.page.content fit k v (step_to C p above k v t.shown) t.entry
      (step_to C p above (entry_key k.file) t.entry t.alive),
  λ h.
      let b = told_from C p.page.header.file p.page.content fit k v h in
      record {
        shown = step_from C p above k v b.one;
        entry = b.named;
        alive = step_from C p above (entry_key k.file) b.named b.two;
      },
)

-- pages in order
put_map : (m n : Map) → ((k : Key) (v : Object) → m k v → n k v) → (file : ℕ) (c : Content) (k : Key) (v : Object) → PutBy m file c k v
    → PutBy n file c k v
put_map m n f file Note k v h = f k v h
put_map m n f file (content.Entry e) k v (inl g) = inl g
put_map m n f file (content.Entry e) k v (inr h) = inr (h.0, f k v h.1)
put_map m n f file (content.Chunk c) k v (inl g) = inl g
put_map m n f file (content.Chunk c) k v (inr h) = inr (h.0, f k v h.1)
put_map m n f file Gone k v h = (h.0, f k v h.1)

pub puts_map : (m n : Map) → ((k : Key) (v : Object) → m k v → n k v) → (ps : List Logged) (k : Key) (v : Object) → Puts m ps k v → Puts n ps k v
puts_map m n f [] k v h = f k v h
puts_map m n f (p ∷ ps) k v h = puts_map (Put m p) (Put n p) (put_map m n f p.page.header.file p.page.content) ps k v h

-- C and some pages more
abbrev pub Grown : Log → List Logged → Log
Grown C [] = C
Grown C (p ∷ ps) = Grown (With C p) ps

pub told_puts : (C : Log) (ps : List Logged) (n : ℕ) → ((q : Logged) → C q → number_of q < n) → Rising n ps → Fits C ps
    → Iff (Told (Grown C ps)) (Puts (Told C) ps)
told_puts C [] n below r f k v = (λ t. t, λ t. t)
told_puts C (p ∷ ps) n below r f k v =
    let rest = told_puts (With C p) ps (suc (number_of p)) (λ q w. lower q w) r.1 f.1 k v in (
      λ t. puts_map (Told (With C p)) (Put (Told C) p) (λ j u. (one j u).0) ps k v (rest.0 t),
      λ h. rest.1 (puts_map (Put (Told C) p) (Told (With C p)) (λ j u. (one j u).1) ps k v h),
    )
  where
    lower : (q : Logged) → With C p q → number_of q < suc (number_of p)
    lower q w = elim w [ inl c ↦ omega (arith, below q c, r.0) | inr e ↦ omega (arith, ap number_of e) ]

    one : Iff (Told (With C p)) (Put (Told C) p)
    one = told_put C p (λ q c. omega (arith, below q c, r.0)) f.0

pub grown_to : (C : Log) (ps : List Logged) (q : Logged) → C q ⊎ On ps q → Grown C ps q
grown_to C [] q (inl c) = c
grown_to C [] q (inr m) = elim m [ ]
grown_to C (p ∷ ps) q (inl c) = grown_to (With C p) ps q (inl (inl c))
grown_to C (p ∷ ps) q (inr m) = grown_to (With C p) ps q (elim (Memᴰ.cases_cons m) [ inl e ↦ inl (inr e) | inr h ↦ inr h ])

pub grown_from : (C : Log) (ps : List Logged) (q : Logged) → Grown C ps q → C q ⊎ On ps q
grown_from C [] q c = inl c
grown_from C (p ∷ ps) q g =
    elim (grown_from (With C p) ps q g) [ inl w ↦ elim w [ inl c ↦ inl c | inr e ↦ inr (Memᴰ.head e) ] | inr m ↦ inr (Memᴰ.tail m) ]

-- an entry of a file of which no page speaks for a chunk makes sense
pub fit_new : (C : Log) (file : ℕ) (e : Entry) → ((p : Logged) (i : ℕ) → C p → Speaks p (chunk_key file i) → ⊥) → FitBy C file (content.Entry e)
fit_new C file e fresh = inr (λ i v s. fresh s.by i s.counted (gives_speaks s.by (chunk_key file i) v s.gives))
