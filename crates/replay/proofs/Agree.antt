-- Two sets of counted pages tell the same: one has more pages, and these say only what is told; or one has the pages at or above a number.
use Rattle.std.proofs.Common.{◌≡◌, ℕ, ◌≤◌, ◌⊎◌, sym, ◌∙◌, subst, inl, inr, arith}
use native.Mathlib.Decide.{dec_le}
use Rattle.object.specs.declared.key.Key.{Key}
use Rattle.object.specs.declared.value.Object.{Object}
use Rattle.page.specs.declared.fields.Content.{Content}
use Rattle.page.specs.declared.fields.Content.TheVariants.{Note, Gone}
use Rattle.page.specs.declared.fields.Content.TheVariants as content
use Rattle.replay.specs.Log.{Log, Logged, number_of, entry_key, SpeaksBy, GivesBy, Speaks, Gives, Shown, Told}
use Rattle.replay.specs.Changes.{High, Echo}
use Rattle.replay.proofs.Base.{Alike, told_by}

speaks_by : (file : ℕ) (c : Content) (k : Key) (v : Object) → GivesBy file c k v → SpeaksBy file c k
speaks_by file Note k v g = g
speaks_by file (content.Entry e) k v g = g.0
speaks_by file (content.Chunk c) k v g = g.0
speaks_by file Gone k v g = absurd g

-- a page that gives a key an object speaks to its slot
pub gives_speaks : (p : Logged) (k : Key) (v : Object) → Gives p k v → Speaks p k
gives_speaks p k v g = speaks_by p.page.header.file p.page.content k v g

slot_by : (file : ℕ) (c : Content) (k j : Key) → SpeaksBy file c k → SpeaksBy file c j → k ≡ j
slot_by file Note k j a b = absurd a
slot_by file (content.Entry e) k j a b = a ∙ sym b
slot_by file (content.Chunk c) k j a b = a ∙ sym b
slot_by file Gone k j a b = a ∙ sym b

-- a page speaks to one slot
pub one_slot : (p : Logged) (k j : Key) → Speaks p k → Speaks p j → k ≡ j
one_slot p k j a b = slot_by p.page.header.file p.page.content k j a b

value_by : (file : ℕ) (c : Content) (k : Key) (v : Object) (j : Key) (w : Object) → GivesBy file c k v → GivesBy file c j w → v ≡ w
value_by file Note k v j w a b = absurd a
value_by file (content.Entry e) k v j w a b = sym a.1 ∙ b.1
value_by file (content.Chunk c) k v j w a b = sym a.1 ∙ b.1
value_by file Gone k v j w a b = absurd a

-- and gives one object
pub one_value : (p : Logged) (k : Key) (v : Object) (j : Key) (w : Object) → Gives p k v → Gives p j w → v ≡ w
one_value p k v j w a b = value_by p.page.header.file p.page.content k v j w a b

-- one object is shown under a key
pub shown_once : {C : Log} (k : Key) (v w : Object) → Shown C k v → Shown C k w → v ≡ w
shown_once k v w a b =
    elim (dec_le (number_of a.by) (number_of b.by)) [
      | yes le ↦ one_value b.by k v k w (a.last b.by b.counted (gives_speaks b.by k w b.gives) le) b.gives
      | no gt ↦ one_value a.by k v k w a.gives (b.last a.by a.counted (gives_speaks a.by k v a.gives) (omega arith))
    ]

module _ (C D : Log) (more : (p : Logged) → C p → D p) (echo : (p : Logged) → D p → C p ⊎ Echo C p) where
  -- an echo of a slot that is shown gives what is shown
  heard : (k : Key) (v : Object) (q : Logged) → Shown C k v → Echo C q → Speaks q k → Gives q k v
  heard k v q s e h =
      let same_key : e.key ≡ k = one_slot q e.key k (gives_speaks q e.key e.object e.gives) h in
      let there : Shown C k e.object = subst (λ (j : Key). Shown C j e.object) same_key e.told.shown in
      let given : Gives q k e.object = subst (λ (j : Key). Gives q j e.object) same_key e.gives in
      subst (λ (w : Object). Gives q k w) (shown_once k e.object v there s) given

  agree_to : (k : Key) (v : Object) → Shown C k v → Shown D k v
  agree_to k v s =
      record {
        by = s.by;
        counted = more s.by s.counted;
        gives = s.gives;
        last = λ q d h l. elim (echo q d) [ inl c ↦ s.last q c h l | inr e ↦ heard k v q s e h ];
      }

  pub agree_high : (g : ℕ) (k : Key) (v : Object) → High C g k v → High D g k v
  unfolding agree_to
  agree_high g k v h = record { shown = agree_to k v h.shown; high = h.high }

  agree_from : (k : Key) (v : Object) → Shown D k v → Shown C k v
  agree_from k v s =
      elim (echo s.by s.counted) [
        | inl c ↦ record { by = s.by; counted = c; gives = s.gives; last = λ q d h l. s.last q (more q d) h l }
        | inr e ↦
            let speaks : Speaks s.by e.key = gives_speaks s.by e.key e.object e.gives in
            let same_key : e.key ≡ k = one_slot s.by e.key k speaks (gives_speaks s.by k v s.gives) in
            let same_value : e.object ≡ v = one_value s.by e.key e.object k v e.gives s.gives in
            subst (λ (w : Object). Shown C k w) same_value (subst (λ (j : Key). Shown C j e.object) same_key e.told.shown)
      ]

  pub agree : Alike C D
  agree k v = (told_by agree_to k v, told_by agree_from k v)

-- the pages of C at or above g
abbrev pub Above : Log → ℕ → Log
Above C g p = C p × (g ≤ number_of p)

-- the floor may rise to g, where each key that is told is shown by a page at or above g
module _ (C : Log) (g : ℕ) (high : (k : Key) (v : Object) → Told C k v → High C g k v) where
  raise_up : (k : Key) (v : Object) → High C g k v → Shown (Above C g) k v
  raise_up k v h =
      record {
        by = h.shown.by;
        counted = (h.shown.counted, h.high);
        gives = h.shown.gives;
        last = λ q d sp l. h.shown.last q d.0 sp l;
      }

  raise_down : (k : Key) (v : Object) → Shown (Above C g) k v → Shown C k v
  raise_down k v s =
      record { by = s.by; counted = s.counted.0; gives = s.gives; last = λ q c h l. s.last q (c, omega (arith, s.counted.1)) h l }

  pub raise : Alike C (Above C g)
  raise k v = (
    λ t.
        record {
          shown = raise_up k v (high k v t);
          entry = t.entry;
          alive = raise_up (entry_key k.file) t.entry
              (high (entry_key k.file) t.entry (record { shown = t.alive; entry = t.entry; alive = t.alive }));
        },
    told_by raise_down k v,
  )
