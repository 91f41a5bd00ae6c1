-- A copy to the head keeps the tables sound.
use Rattle.std.proofs.Common.{◌≡◌, ℕ, ◌+◌, ◌<◌, ◌≤◌, sym, ap, ◌∙◌, subst, inl, inr, arith}
use native.Mathlib.Decide.{ℕ_discrete}
use Rattle.planner.specs.State.{State, Sound, Lowest}
use Rattle.planner.specs.Moves.{Copied, Carries}
use Rattle.planner.proofs.Limits.{limit_same}
use Rattle.planner.proofs.Unmoved.{Grown, grown_up, grown_highest}

-- each key's number is at most the last one
pub known : (s : State) → Sound s → (k : ℕ) → k < s.count → s.number k ≤ s.last
known s w k l = omega (arith, w.held k l, w.highest (s.block k) (w.inside k l))

-- nothing outside the head is newer than a key in it
pub head_last : (s : State) → Sound s → s.head < s.blocks → (j k : ℕ) → j < s.count → k < s.count → s.block j ≡ s.head → (s.block j ≡ s.block k → ⊥)
    → s.number j < s.number k → ⊥
head_last s w headed j k l m e ne lt =
    let a : s.high (s.block j) ≡ s.high s.head = ap s.high e in
    omega (arith, a, w.newest (omega (arith, w.written j l e)) headed, w.order j k l m ne lt, known s w k m)

-- the floor of a copy: not lower than it was, not above the other keys' numbers or the copy's own
pub floor_up : (s : State) → Sound s → (i f : ℕ) → Carries s i f → s.floor ≤ f
floor_up s w i f (inl h) = omega (arith, h.same)
floor_up s w i f (inr h) = elim h.some [ inl a ↦ omega (arith, a.3, w.counted a.0 a.1) | inr a ↦ omega (arith, a.1, w.low) ]

floor_under : (s : State) → Sound s → (i f : ℕ) → Carries s i f → (k : ℕ) → k < s.count → (k ≡ i → ⊥) → f ≤ s.number k
floor_under s w i f c k l ne = elim c [ inl h ↦ omega (arith, h.same, w.counted k l) | inr h ↦ h.below k l ne ]

floor_last : (s : State) → Sound s → (i f : ℕ) → Carries s i f → f ≤ s.last + 1
floor_last s w i f c =
    elim c [
      | inl h ↦ omega (arith, h.same, w.low)
      | inr h ↦ elim h.some [ inl a ↦ omega (arith, a.3, known s w a.0 a.1) | inr a ↦ omega (arith, a.1) ]
    ]

module _ (s : State) (w : Sound s) (i f : ℕ) (low : Lowest s i) (carries : Carries s i f) (t : State) (o : Copied s i f t) (headed : s.head < s.blocks)
    (space : s.used < s.per) where
  back : (k : ℕ) → k < t.count → k < s.count
  back k l = omega (arith, o.count)

  grown : Grown s t
  grown = record { blocks = o.blocks; here = o.here ∙ sym o.last; high = o.high; more = omega (arith, o.last) }

  high_here : t.high (t.block i) ≡ s.last + 1
  high_here = ap t.high o.block_here ∙ o.here

  held : (k : ℕ) → k < s.count → Dec (k ≡ i) → t.number k ≤ t.high (t.block k)
  held k l (yes e) = subst (λ (j : ℕ). t.number j ≤ t.high (t.block j)) (sym e) (omega (arith, high_here, o.number_here))
  held k l (no ne) =
      let a : t.high (t.block k) ≡ t.high (s.block k) = ap t.high (o.kept k l ne).block in
      omega (arith, a, grown_up s t w grown (s.block k) (w.inside k l), w.held k l, (o.kept k l ne).number)

  -- no page that tells a key is the head's next one
  fresh : (k : ℕ) → k < s.count → (k ≡ i → ⊥) → t.block k ≡ t.block i → t.index k ≡ t.index i → ⊥
  fresh k l ne d e =
      omega (arith, o.index_here, (o.kept k l ne).index, w.written k l (sym (o.kept k l ne).block ∙ d ∙ o.block_here))

  apart : (j k : ℕ) → j < s.count → k < s.count → Dec (j ≡ i) → Dec (k ≡ i) → t.block j ≡ t.block k → t.index j ≡ t.index k → j ≡ k
  apart j k l m (yes d) (yes e) p q = omega arith
  apart j k l m (no d) (no e) p q =
      w.apart j k l m (omega (arith, (o.kept j l d).block, (o.kept k m e).block)) (omega (arith, (o.kept j l d).index, (o.kept k m e).index))
  apart j k l m (yes d) (no e) p q = absurd (fresh k m e (sym p ∙ ap t.block d) (sym q ∙ ap t.index d))
  apart j k l m (no d) (yes e) p q = absurd (fresh j l d (p ∙ ap t.block e) (q ∙ ap t.index e))

  unlike : (j k : ℕ) → j < s.count → k < s.count → Dec (j ≡ i) → Dec (k ≡ i) → t.number j ≡ t.number k → j ≡ k
  unlike j k l m (yes d) (yes e) q = omega arith
  unlike j k l m (no d) (no e) q = w.unlike j k l m (omega (arith, (o.kept j l d).number, (o.kept k m e).number))
  unlike j k l m (yes d) (no e) q =
      let a : t.number j ≡ t.number i = ap t.number d in absurd (omega (arith, o.number_here, (o.kept k m e).number, known s w k m))
  unlike j k l m (no d) (yes e) q =
      let a : t.number k ≡ t.number i = ap t.number e in absurd (omega (arith, o.number_here, (o.kept j l d).number, known s w j l))

  order : (j k : ℕ) → j < s.count → k < s.count → Dec (j ≡ i) → Dec (k ≡ i) → (t.block j ≡ t.block k → ⊥) → t.number j < t.number k
      → t.high (t.block j) < t.number k
  order j k l m (yes d) (yes e) ne lt = absurd (ne (ap t.block (d ∙ sym e)))
  order j k l m (yes d) (no e) ne lt =
      let a : t.number j ≡ t.number i = ap t.number d in absurd (omega (arith, o.number_here, (o.kept k m e).number, known s w k m))
  order j k l m (no d) (yes e) ne lt =
      let a : t.number k ≡ t.number i = ap t.number e in
      let b : t.block k ≡ t.block i = ap t.block e in
      let c : t.high (t.block j) ≡ s.high (s.block j)
      = ap t.high (o.kept j l d).block ∙ o.high (s.block j) (w.inside j l) (λ q. ne ((o.kept j l d).block ∙ q ∙ sym o.block_here ∙ sym b)) in
      omega (arith, o.number_here, w.highest (s.block j) (w.inside j l))
  order j k l m (no d) (no e) ne lt =
      let n : s.block j ≡ s.block k → ⊥ = λ q. ne ((o.kept j l d).block ∙ q ∙ sym (o.kept k m e).block) in
      let lt' : s.number j < s.number k = omega (arith, (o.kept j l d).number, (o.kept k m e).number) in
      let c : t.high (t.block j) ≡ s.high (s.block j)
      = ap t.high (o.kept j l d).block ∙ o.high (s.block j) (w.inside j l) (λ q. head_last s w headed j k l m q n lt') in
      omega (arith, w.order j k l m n lt', (o.kept k m e).number)

  pub copy_sound : Sound t
  copy_sound =
      record {
        wide = omega (arith, w.wide, o.per);
        tall = omega (arith, w.tall, o.blocks);
        room = omega (arith, w.room, o.count, limit_same t.per s.per t.blocks s.blocks o.per o.blocks);
        inside = λ k l.
            elim (ℕ_discrete k i) [
              | yes e ↦ (let a : t.block k ≡ t.block i = ap t.block e in omega (arith, a, o.block_here, o.blocks))
              | no ne ↦ omega (arith, (o.kept k (back k l) ne).block, w.inside k (back k l), o.blocks)
            ];
        fit = λ k l.
            elim (ℕ_discrete k i) [
              | yes e ↦ (let a : t.index k ≡ t.index i = ap t.index e in omega (arith, a, o.index_here, o.per))
              | no ne ↦ omega (arith, (o.kept k (back k l) ne).index, w.fit k (back k l), o.per)
            ];
        apart = λ j k l m. apart j k (back j l) (back k m) (ℕ_discrete j i) (ℕ_discrete k i);
        unlike = λ j k l m. unlike j k (back j l) (back k m) (ℕ_discrete j i) (ℕ_discrete k i);
        held = λ k l. held k (back k l) (ℕ_discrete k i);
        counted = λ k l.
            elim (ℕ_discrete k i) [
              | yes e ↦ (let a : t.number k ≡ t.number i = ap t.number e in omega (arith, a, o.number_here, o.floor, floor_last s w i f carries))
              | no ne ↦ omega (arith, (o.kept k (back k l) ne).number, o.floor, floor_under s w i f carries k (back k l) ne)
            ];
        order = λ j k l m. order j k (back j l) (back k m) (ℕ_discrete j i) (ℕ_discrete k i);
        highest = grown_highest s t w grown;
        some = omega (arith, o.floor, w.some, floor_up s w i f carries);
        low = omega (arith, o.floor, o.last, floor_last s w i f carries);
        within = omega (arith, o.used, o.per);
        headless = λ h. absurd (omega (arith, o.head, o.blocks));
        written = λ k l e.
            elim (ℕ_discrete k i) [
              | yes q ↦ (let a : t.index k ≡ t.index i = ap t.index q in omega (arith, a, o.index_here, o.used))
              | no ne ↦
                  (let a : s.index k < s.used = w.written k (back k l) (sym (o.kept k (back k l) ne).block ∙ e ∙ o.head) in
                  omega (arith, (o.kept k (back k l) ne).index, o.used))
            ];
        newest = λ h g. ap t.high o.head ∙ o.here ∙ sym o.last;
      }
