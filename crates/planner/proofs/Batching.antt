-- A batch into the room made for it leaves sound tables and a free block.
use Rattle.std.proofs.Common.{◌≡◌, ℕ, zero, suc, ◌+◌, ◌<◌, ◌≤◌, ◌⊎◌, sym, refl, ap, ◌∙◌, inl, inr, arith}
use native.Mathlib.Decide.{ℕ_discrete, dec_le}
use Rattle.planner.specs.State.{State, Sound, Free}
use Rattle.planner.specs.Moves.{Same}
use Rattle.planner.specs.Room.{Room}
use Rattle.planner.specs.Batches.{New, BatchFloor, Batched, BatchKeeps}
use Rattle.planner.proofs.Copying.{known, head_last}
use Rattle.planner.proofs.Unmoved.{Grown, grown_up, grown_highest}

-- some key has the lowest number
least : (f : ℕ → ℕ) (n : ℕ) → (n ≡ 0) ⊎ ((i : ℕ) × (i < n) × ((k : ℕ) → k < n → f i ≤ f k))
least f zero = inl refl
least f (suc n) =
    elim (least f n) [
      | inl e ↦ inr (n, omega arith, λ k l. (let q : k ≡ n = omega arith in omega (arith, ap f q)))
      | inr b ↦
          elim (dec_le (f b.0) (f n)) [
            | yes le ↦ inr (b.0, omega (arith, b.1), λ k l. elim (ℕ_discrete k n) [ yes q ↦ omega (arith, ap f q) | no ne ↦ b.2 k (omega arith) ])
            | no gt ↦ inr (n, omega arith, λ k l. elim (ℕ_discrete k n) [ yes q ↦ omega (arith, ap f q) | no ne ↦ omega (arith, b.2 k (omega arith)) ])
          ]
    ]

module _ (s t : State) (g f : ℕ) (w : Sound s) (some : 1 ≤ g) (room : Room s g) (bf : BatchFloor s f) (o : Batched s g f t) where
  abbrev Old : ℕ → Type 0
  Old k = (j : ℕ) × (j < s.count) × Same s j t k

  abbrev Made : ℕ → Type 0
  Made k = (j : ℕ) × (j < g) × New s j t k

  record Raised : Type 0 where
    up : s.floor ≤ t.floor
    under : (k : ℕ) → k < s.count → t.floor ≤ s.number k
    most : t.floor ≤ s.last + 1

  raised : Raised
  raised =
      elim (least s.number s.count) [
        | inl e ↦ record { up = omega (arith, o.floor, bf.bare e, w.low); under = λ k l. absurd (omega arith); most = omega (arith, o.floor, bf.bare e) }
        | inr b ↦
            (let q : f ≡ s.number b.0 = bf.lowest b.0 (record { real = b.1; least = b.2 }) in
            record {
              up = omega (arith, o.floor, q, w.counted b.0 b.1);
              under = λ k l. omega (arith, o.floor, q, b.2 k l);
              most = omega (arith, o.floor, q, known s w b.0 b.1);
            })
      ]

  grown : Grown s t
  grown = record { blocks = o.blocks; here = o.here ∙ sym o.last; high = o.high; more = omega (arith, o.last) }

  -- no page of the batch told a key before it
  fresh : (j k : ℕ) → (a : Old j) → (b : Made k) → t.block j ≡ t.block k → t.index j ≡ t.index k → ⊥
  fresh j k a b d e = omega (arith, a.2.index, b.2.index, e, w.written a.0 a.1 (sym a.2.block ∙ d ∙ b.2.block))

  apart : (j k : ℕ) → j < t.count → k < t.count → Old j ⊎ Made j → Old k ⊎ Made k → t.block j ≡ t.block k → t.index j ≡ t.index k → j ≡ k
  apart j k l m (inl a) (inl b) d e =
      let q : a.0 ≡ b.0 = w.apart a.0 b.0 a.1 b.1 (sym a.2.block ∙ d ∙ b.2.block) (sym a.2.index ∙ e ∙ b.2.index) in
      o.unlike j k l m (a.2.number ∙ ap s.number q ∙ sym b.2.number)
  apart j k l m (inr a) (inr b) d e = o.unlike j k l m (omega (arith, a.2.number, b.2.number, a.2.index, b.2.index, e))
  apart j k l m (inl a) (inr b) d e = absurd (fresh j k a b d e)
  apart j k l m (inr a) (inl b) d e = absurd (fresh k j b a (sym d) (sym e))

  order : (j k : ℕ) → Old j ⊎ Made j → Old k ⊎ Made k → (t.block j ≡ t.block k → ⊥) → t.number j < t.number k → t.high (t.block j) < t.number k
  order j k (inl a) (inl b) ne lt =
      let n : s.block a.0 ≡ s.block b.0 → ⊥ = λ q. ne (a.2.block ∙ q ∙ sym b.2.block) in
      let lt' : s.number a.0 < s.number b.0 = omega (arith, a.2.number, b.2.number) in
      let c : t.high (t.block j) ≡ s.high (s.block a.0)
      = ap t.high a.2.block ∙ o.high (s.block a.0) (w.inside a.0 a.1) (λ q. head_last s w room.headed a.0 b.0 a.1 b.1 q n lt') in
      omega (arith, c, w.order a.0 b.0 a.1 b.1 n lt', b.2.number)
  order j k (inl a) (inr b) ne lt =
      let c : t.high (t.block j) ≡ s.high (s.block a.0)
      = ap t.high a.2.block ∙ o.high (s.block a.0) (w.inside a.0 a.1) (λ q. ne (a.2.block ∙ q ∙ sym b.2.block)) in
      omega (arith, c, b.2.number, w.highest (s.block a.0) (w.inside a.0 a.1))
  order j k (inr a) (inl b) ne lt = absurd (omega (arith, a.2.number, b.2.number, known s w b.0 b.1))
  order j k (inr a) (inr b) ne lt = absurd (ne (a.2.block ∙ sym b.2.block))

  pub batch_sound : Sound t
  batch_sound =
      record {
        wide = omega (arith, w.wide, o.per);
        tall = omega (arith, w.tall, o.blocks);
        room = o.limited;
        inside = λ k l.
            elim (o.each k l) [ inl a ↦ omega (arith, a.2.block, w.inside a.0 a.1, o.blocks) | inr a ↦ omega (arith, a.2.block, room.headed, o.blocks) ];
        fit = λ k l.
            elim (o.each k l) [ inl a ↦ omega (arith, a.2.index, w.fit a.0 a.1, o.per) | inr a ↦ omega (arith, a.2.index, a.1, room.left, o.per) ];
        apart = λ j k l m. apart j k l m (o.each j l) (o.each k m);
        unlike = o.unlike;
        held = λ k l.
            elim (o.each k l) [
              | inl a ↦
                  (let c : t.high (t.block k) ≡ t.high (s.block a.0) = ap t.high a.2.block in
                  omega (arith, c, a.2.number, w.held a.0 a.1, grown_up s t w grown (s.block a.0) (w.inside a.0 a.1)))
              | inr a ↦ (let c : t.high (t.block k) ≡ t.high s.head = ap t.high a.2.block in omega (arith, c, a.2.number, a.1, o.here))
            ];
        counted = λ k l.
            elim (o.each k l) [ inl a ↦ omega (arith, a.2.number, raised.under a.0 a.1) | inr a ↦ omega (arith, a.2.number, raised.most) ];
        order = λ j k l m. order j k (o.each j l) (o.each k m);
        highest = grown_highest s t w grown;
        some = omega (arith, raised.up, w.some);
        low = omega (arith, raised.most, o.last);
        within = omega (arith, o.used, room.left, o.per);
        headless = λ h. absurd (omega (arith, o.head, o.blocks, room.headed));
        written = λ k l e.
            elim (o.each k l) [
              | inl a ↦ omega (arith, a.2.index, o.used, w.written a.0 a.1 (sym a.2.block ∙ e ∙ o.head))
              | inr a ↦ omega (arith, a.2.index, a.1, o.used)
            ];
        newest = λ h l. ap t.high o.head ∙ o.here ∙ sym o.last;
      }

  -- where there was no key, all blocks but the head are free now
  all_free : s.count ≡ 0 → (b : ℕ) → b < s.blocks → (b ≡ s.head → ⊥) → Free t b
  all_free e b l ne =
      record { real = omega (arith, o.blocks); below = omega (arith, o.high b l ne, w.highest b l, o.floor, bf.bare e); other = λ q. ne (q ∙ o.head) }

  pub batch_free : (b : ℕ) × Free t b
  batch_free =
      elim room.free [
        | inl h ↦ (
          h.0,
          record {
            real = omega (arith, h.1.real, o.blocks);
            below = omega (arith, o.high h.0 h.1.real h.1.other, h.1.below, raised.up);
            other = λ q. h.1.other (q ∙ o.head);
          },
        )
        | inr e ↦
            elim (ℕ_discrete 0 s.head) [
              | yes q ↦ (1, all_free e 1 (omega (arith, w.tall)) (λ h. omega arith))
              | no ne ↦ (0, all_free e 0 (omega (arith, w.tall)) ne)
            ]
      ]

pub batch_keeps : BatchKeeps
batch_keeps s t g f w some room bf o = (batch_sound s t g f w some room bf o, batch_free s t g f w some room bf o)
