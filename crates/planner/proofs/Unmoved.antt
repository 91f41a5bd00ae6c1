-- What stays sound where no key moves, and where the head alone is written.
use Rattle.std.proofs.Common.{◌≡◌, ℕ, ◌+◌, ◌<◌, ◌≤◌, sym, ap, ◌∙◌, arith}
use native.Mathlib.Decide.{ℕ_discrete}
use Rattle.planner.specs.State.{State, Sound}
use Rattle.planner.specs.Moves.{Same}
use Rattle.planner.proofs.Limits.{limit_same}

-- each key is told by the page that told it, in a block that goes as high, at the same floor
pub record Unmoved (s t : State) : Type 0 where
  pub per : t.per ≡ s.per
  pub blocks : t.blocks ≡ s.blocks
  pub count : t.count ≡ s.count
  pub kept : (k : ℕ) → k < s.count → Same s k t k
  pub high : (k : ℕ) → k < s.count → t.high (t.block k) ≡ s.high (s.block k)
  pub floor : t.floor ≡ s.floor

module _ (s t : State) (w : Sound s) (o : Unmoved s t) where
  back : (k : ℕ) → k < t.count → k < s.count
  back k l = omega (arith, o.count)

  pub unmoved_sound : ((b : ℕ) → b < t.blocks → t.high b ≤ t.last) → t.floor ≤ t.last + 1 → t.used ≤ t.per → (t.blocks ≤ t.head → t.used ≡ t.per)
      → ((k : ℕ) → k < t.count → t.block k ≡ t.head → t.index k < t.used) → (0 < t.used → t.head < t.blocks → t.high t.head ≡ t.last) → Sound t
  unmoved_sound highest low within headless written newest =
      record {
        wide = omega (arith, w.wide, o.per);
        tall = omega (arith, w.tall, o.blocks);
        room = omega (arith, w.room, o.count, limit_same t.per s.per t.blocks s.blocks o.per o.blocks);
        inside = λ k l. omega (arith, (o.kept k (back k l)).block, w.inside k (back k l), o.blocks);
        fit = λ k l. omega (arith, (o.kept k (back k l)).index, w.fit k (back k l), o.per);
        apart = λ j k l m d e.
            w.apart j k (back j l) (back k m) (omega (arith, (o.kept j (back j l)).block, (o.kept k (back k m)).block))
            (omega (arith, (o.kept j (back j l)).index, (o.kept k (back k m)).index));
        unlike = λ j k l m e. w.unlike j k (back j l) (back k m) (omega (arith, (o.kept j (back j l)).number, (o.kept k (back k m)).number));
        held = λ k l. omega (arith, o.high k (back k l), w.held k (back k l), (o.kept k (back k l)).number);
        counted = λ k l. omega (arith, o.floor, (o.kept k (back k l)).number, w.counted k (back k l));
        order = λ j k l m ne lt.
            let h : s.high (s.block j) < s.number k
            = w.order j k (back j l) (back k m) (λ e. ne ((o.kept j (back j l)).block ∙ e ∙ sym (o.kept k (back k m)).block))
            (omega (arith, (o.kept j (back j l)).number, (o.kept k (back k m)).number)) in
            omega (arith, o.high j (back j l), (o.kept k (back k m)).number);
        highest = highest;
        some = omega (arith, o.floor, w.some);
        low = low;
        within = within;
        headless = headless;
        written = written;
        newest = newest;
      }

-- the head goes up to the last number, and no other block changes
pub record Grown (s t : State) : Type 0 where
  pub blocks : t.blocks ≡ s.blocks
  pub here : t.high s.head ≡ t.last
  pub high : (c : ℕ) → c < s.blocks → (c ≡ s.head → ⊥) → t.high c ≡ s.high c
  pub more : s.last ≤ t.last

module _ (s t : State) (w : Sound s) (o : Grown s t) where
  pub grown_up : (c : ℕ) → c < s.blocks → s.high c ≤ t.high c
  grown_up c l =
      elim (ℕ_discrete c s.head) [
        | yes e ↦ (let a : t.high c ≡ t.high s.head = ap t.high e in omega (arith, a, o.here, o.more, w.highest c l))
        | no ne ↦ omega (arith, o.high c l ne)
      ]

  pub grown_highest : (c : ℕ) → c < t.blocks → t.high c ≤ t.last
  grown_highest c l =
      elim (ℕ_discrete c s.head) [
        | yes e ↦ (let a : t.high c ≡ t.high s.head = ap t.high e in omega (arith, a, o.here))
        | no ne ↦ omega (arith, o.high c (omega (arith, o.blocks)) ne, w.highest c (omega (arith, o.blocks)), o.more)
      ]
