-- A block is opened while room is made.
use Rattle.std.proofs.Common.{◌≡◌, ℕ, ◌<◌, ◌≤◌, Bool, eqb, leb, sym, refl, ap, ◌∙◌, inr, arith}
use native.Mathlib.Decide.{ℕ_discrete}
use Rattle.std.proofs.lemmas.Bool.{eqb-true, ne_eqb}
use Rattle.planner.specs.Tally.{tally}
use Rattle.planner.specs.State.{State, Sound, Free, in_block, old}
use Rattle.planner.specs.Moves.{Same, Opened}
use Rattle.planner.specs.Making.{Scratch, Making}
use Rattle.planner.proofs.Tally.{tally_le, tally_same, tally_none, tally_marks}
use Rattle.planner.proofs.Opening.{free_empty, open_high, open_sound}

-- a block holds at most as many keys as it has pages
pub at_most : (s : State) → Sound s → (b : ℕ) → in_block s b ≤ s.per
at_most s w b =
    tally_marks (λ k. eqb (s.block k) b) s.index s.count s.per (λ k l e. w.fit k l)
    (λ j k l m d e q. w.apart j k l m (eqb-true (s.block j) b d ∙ sym (eqb-true (s.block k) b e)) q)

tally_at : (f g : ℕ → Bool) (m n : ℕ) → m ≡ n → ((k : ℕ) → k < n → f k ≡ g k) → tally f m ≡ tally g n
tally_at f g m n e h = ap (tally f) e ∙ tally_same f g n h

same_self : (s : State) (k : ℕ) → Same s k s k
same_self s k = record { block = refl; index = refl; number = refl }

module _ (s : State) (w : Sound s) (b : ℕ) (f : Free s b) (t : State) (o : Opened s b t) where
  back : (k : ℕ) → k < t.count → k < s.count
  back k l = omega (arith, o.count)

  same_in : (c : ℕ) → in_block t c ≡ in_block s c
  same_in c =
      tally_at (λ k. eqb (t.block k) c) (λ k. eqb (s.block k) c) t.count s.count o.count (λ k l. ap (λ (p : ℕ). eqb p c) (o.kept k l).block)

  pub same_old : (m : ℕ) → old t m ≡ old s m
  same_old m =
      tally_at (λ k. leb (t.number k) m) (λ k. leb (s.number k) m) t.count s.count o.count (λ k l. ap (λ (p : ℕ). leb p m) (o.kept k l).number)

  none_in : in_block t b ≡ 0
  none_in = same_in b ∙ tally_none (λ k. eqb (s.block k) b) s.count (λ k l. ne_eqb (s.block k) b (free_empty s w b f k l))

  none_head : t.used ≡ in_block t t.head
  none_head = o.used ∙ sym none_in ∙ ap (in_block t) (sym o.head)

  clear : (k : ℕ) → k < t.count → t.block k ≡ t.head → ⊥
  clear k l e = free_empty s w b f k (back k l) (sym (o.kept k (back k l)).block ∙ e ∙ o.head)

  pub open_scratch : Scratch t
  open_scratch =
      record {
        opened = t;
        sound = open_sound s w b f t o;
        bare = o.used;
        empty = ap t.high o.head ∙ o.here;
        per = refl;
        blocks = refl;
        count = refl;
        head = refl;
        floor = refl;
        before = omega arith;
        high = λ c l ne. refl;
        kept = λ k l ne. same_self t k;
        copies = none_head;
        enough = λ i low. omega (arith, o.used, at_most t (open_sound s w b f t o) (t.block i));
      }

  -- the first time: m is the last number
  pub open_first : Making s.last t
  open_first =
      record {
        sound = open_sound s w b f t o;
        headed = omega (arith, o.head, o.blocks, f.real);
        since = omega (arith, o.last);
        olds = λ k l h. (omega (arith, open_high s w b f t o k (back k l), w.highest (s.block k) (w.inside k (back k l))), clear k l);
        copies = none_head;
        full = λ c l ne h.
            absurd (omega (arith, o.high c (omega (arith, o.blocks)) (λ e. ne (e ∙ sym o.head)), w.highest c (omega (arith, o.blocks))));
        done = λ p h. absurd (omega (arith, h 0 p, (o.kept 0 (back 0 p)).number, w.held 0 (back 0 p), w.highest (s.block 0) (w.inside 0 (back 0 p))));
        spent = omega (arith, o.last, tally_le (λ k. leb (t.number k) s.last) t.count);
        spare = inr open_scratch;
      }

  -- again, where the head is full of copies
  pub open_again : (m : ℕ) → Making m s → s.used ≡ s.per → Making m t
  open_again m c u =
      record {
        sound = open_sound s w b f t o;
        headed = omega (arith, o.head, o.blocks, f.real);
        since = omega (arith, o.last, c.since);
        olds = λ k l h. (omega (arith, open_high s w b f t o k (back k l), (c.olds k (back k l) (omega (arith, (o.kept k (back k l)).number))).0), clear k l);
        copies = none_head;
        full = λ d l ne h.
            let e : t.high d ≡ s.high d = o.high d (omega (arith, o.blocks)) (λ e. ne (e ∙ sym o.head)) in
            let q : in_block t d ≡ in_block s d = same_in d in
            elim (ℕ_discrete d s.head) [
              | yes at ↦ (let a : in_block s d ≡ in_block s s.head = ap (in_block s) at in omega (arith, q, a, c.copies, o.per))
              | no off ↦ omega (arith, q, o.per, c.full d (omega (arith, o.blocks)) off (omega (arith, e)))
            ];
        done = λ p h.
            (let a : m < s.floor = c.done (omega (arith, o.count)) (λ k l. omega (arith, h k (omega (arith, o.count)), (o.kept k l).number)) in
            omega (arith, o.floor));
        spent = omega (arith, o.last, o.count, same_old m, c.spent);
        spare = inr open_scratch;
      }

  -- of two free blocks one still is
  pub open_other : (c : ℕ) → Free s c → (c ≡ b → ⊥) → Free t c
  open_other c g ne =
      record {
        real = omega (arith, g.real, o.blocks);
        below = omega (arith, o.high c g.real ne, o.floor, g.below);
        other = λ e. ne (e ∙ o.head);
      }
