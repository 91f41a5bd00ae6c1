-- The key with the lowest number is copied to the head while room is made.
use Rattle.std.proofs.Common.{◌≡◌, ℕ, suc, ◌+◌, ◌*◌, ◌<◌, ◌≤◌, cond, eqb, ltb, leb, sym, refl, ap, ◌∙◌, inl, inr, arith}
use native.Mathlib.Decide.{ℕ_discrete, dec_le, dec_lt}
use Rattle.std.proofs.lemmas.Bool.Decides.{nat_tests}
use Rattle.std.proofs.lemmas.Bool.{eq-eqb, ne_eqb, le-leb, lt-leb}
use Rattle.planner.specs.Tally.{tally}
use Rattle.planner.specs.State.{State, Sound, Free, Lowest, in_block, old}
use Rattle.planner.specs.Moves.{Same, Copied, Carries, Stays, Rises}
use Rattle.planner.specs.Making.{Scratch, Spare, Making}
use Rattle.planner.proofs.Tally.{tally_le, tally_same, tally_move, tally_some, crowd}
use Rattle.planner.proofs.Limits.{limit_more}
use Rattle.planner.proofs.Copying.{known, floor_up, copy_sound}

-- where at most one block is free, a key is left that was told before
pub lowest_old : (m : ℕ) (s : State) → Making m s → (i : ℕ) → Lowest s i → (f : ℕ) → ((b : ℕ) → Free s b → b ≡ f) → s.number i ≤ m
lowest_old m s c i low f one = elim (dec_le (s.number i) m) [ yes h ↦ h | no h ↦ absurd (omega (arith, c.sound.room, all h, fewer, limit_more s.per s.blocks (omega (arith, c.sound.tall)), c.sound.wide)) ]
  where
    fewer : tally (λ k. ltb (s.block k) s.blocks) s.count ≤ s.count
    fewer = tally_le (λ k. ltb (s.block k) s.blocks) s.count

    holds : (s.number i ≤ m → ⊥) → (b : ℕ) → b < s.blocks → (b ≡ f → ⊥) → (b ≡ s.head → ⊥) → s.per ≤ in_block s b
    holds h b l ne nh =
        let up : m < s.floor = c.done (omega (arith, low.real)) (λ k r. omega (arith, low.least k r)) in
        elim (dec_lt m (s.high b)) [
          | yes g ↦ c.full b l nh g
          | no g ↦ absurd (ne (one b (record { real = l; below = omega arith; other = nh })))
        ]

    all : (s.number i ≤ m → ⊥) → s.per * s.blocks ≤ tally (λ k. ltb (s.block k) s.blocks) s.count + 2 * s.per
    all h =
        let r : s.per * s.blocks ≤ tally (λ k. ltb (s.block k) s.blocks) s.count + cond (ltb f s.blocks) s.per 0 + cond (ltb s.head s.blocks) s.per 0
        = crowd s.per s.block s.count f s.head s.blocks (holds h) in
        grind (arith, nat_tests)

-- where a full head means that no block is free.. there is a page for the copy
pub space : (m : ℕ) (s : State) → Making m s → (i : ℕ) → Lowest s i → (s.used ≡ s.per → (b : ℕ) → Free s b → ⊥) → s.used < s.per
space m s c i low none =
    elim c.spare [
      | inl f ↦ elim (ℕ_discrete s.used s.per) [ yes e ↦ absurd (none e f.0 f.1) | no ne ↦ omega (arith, c.sound.within) ]
      | inr r ↦ omega (arith, r.enough i low, tally_some (λ k. eqb (s.block k) (s.block i)) s.count i low.real (eq-eqb (s.block i) (s.block i) refl))
    ]

module _ (m : ℕ) (s : State) (c : Making m s) (i f : ℕ) (low : Lowest s i) (carries : Carries s i f) (t : State) (o : Copied s i f t) (room : s.used < s.per)
    (was : s.number i ≤ m) where
  w : Sound s
  w = c.sound

  sound : Sound t
  sound = copy_sound s w i f low carries t o c.headed room

  back : (k : ℕ) → k < t.count → k < s.count
  back k l = omega (arith, o.count)

  here : t.block i ≡ s.head
  here = o.block_here

  near : (k : ℕ) → k < s.count → (k ≡ i → ⊥) → t.block k ≡ s.block k
  near k l ne = (o.kept k l ne).block

  up : s.floor ≤ f
  up = floor_up s w i f carries

  source : s.block i ≡ s.head → ⊥
  source = (c.olds i low.real was).1

  -- the source's block has one key less
  fewer : in_block s (s.block i) ≡ suc (in_block t (s.block i))
  fewer =
      tally_move (λ k. eqb (s.block k) (s.block i)) (λ k. eqb (t.block k) (s.block i)) s.count i low.real (eq-eqb (s.block i) (s.block i) refl)
      (ne_eqb (t.block i) (s.block i) (λ e. source (sym e ∙ here)))
      (λ k l ne. ap (λ (p : ℕ). eqb p (s.block i)) (sym (near k l ne)))
      ∙ ap (λ (n : ℕ). suc (tally (λ k. eqb (t.block k) (s.block i)) n)) (sym o.count)

  -- the head one more
  more : in_block t s.head ≡ suc (in_block s s.head)
  more =
      ap (tally (λ k. eqb (t.block k) s.head)) o.count
      ∙ tally_move (λ k. eqb (t.block k) s.head) (λ k. eqb (s.block k) s.head) s.count i low.real (eq-eqb (t.block i) s.head here)
      (ne_eqb (s.block i) s.head source)
      (λ k l ne. ap (λ (p : ℕ). eqb p s.head) (near k l ne))

  others : (b : ℕ) → (b ≡ s.head → ⊥) → (b ≡ s.block i → ⊥) → in_block t b ≡ in_block s b
  others b nh ni =
      ap (tally (λ k. eqb (t.block k) b)) o.count
      ∙ tally_same (λ k. eqb (t.block k) b) (λ k. eqb (s.block k) b) s.count
      (λ k l.
      elim (ℕ_discrete k i) [
        | yes e ↦
            (let a : t.block k ≡ s.head = ap t.block e ∙ here in
            let d : s.block k ≡ s.block i = ap s.block e in
            ne_eqb (t.block k) b (λ q. nh (sym q ∙ a)) ∙ sym (ne_eqb (s.block k) b (λ q. ni (sym q ∙ d))))
        | no ne ↦ ap (λ (p : ℕ). eqb p b) (near k l ne)
      ])

  pub old_less : old s m ≡ suc (old t m)
  old_less =
      tally_move (λ k. leb (s.number k) m) (λ k. leb (t.number k) m) s.count i low.real (le-leb (s.number i) m was)
      (lt-leb (t.number i) m (omega (arith, o.number_here, c.since)))
      (λ k l ne. ap (λ (p : ℕ). leb p m) (sym (o.kept k l ne).number))
      ∙ ap (λ (n : ℕ). suc (tally (λ k. leb (t.number k) m) n)) (sym o.count)

  pub free_stays : (b : ℕ) → Free s b → Free t b
  free_stays b g =
      record {
        real = omega (arith, g.real, o.blocks);
        below = omega (arith, o.high b g.real g.other, o.floor, g.below, up);
        other = λ e. g.other (e ∙ o.head);
      }

  -- the next lowest lies in the same block
  next_near : Stays s i f → (j : ℕ) → Lowest t j → (j ≡ i → ⊥) × (s.block j ≡ s.block i)
  next_near h j lj = (other, same)
    where
      least : t.number j ≤ s.number h.mate
      least = omega (arith, lj.least h.mate (omega (arith, h.real, o.count)), (o.kept h.mate h.real h.other).number)

      other : j ≡ i → ⊥
      other e = let a : t.number j ≡ t.number i = ap t.number e in omega (arith, a, o.number_here, least, known s w h.mate h.real)

      real : j < s.count
      real = back j lj.real

      rises : s.number i < s.number j
      rises = elim (ℕ_discrete (s.number i) (s.number j)) [ yes e ↦ absurd (other (sym (w.unlike i j low.real real e))) | no ne ↦ omega (arith, low.least j real) ]

      same : s.block j ≡ s.block i
      same =
          elim (ℕ_discrete (s.block j) (s.block i)) [
            | yes e ↦ e
            | no ne ↦
                (let a : s.high (s.block h.mate) ≡ s.high (s.block i) = ap s.high h.near in
                absurd (omega (arith, a, w.order i j low.real real (λ e. ne (sym e)) rises, w.held h.mate h.real, least, (o.kept j real other).number)))
          ]

  scratch_stays : Stays s i f → Scratch s → Scratch t
  scratch_stays h r =
      record {
        opened = r.opened;
        sound = r.sound;
        bare = r.bare;
        empty = ap r.opened.high o.head ∙ r.empty;
        per = r.per ∙ sym o.per;
        blocks = r.blocks ∙ sym o.blocks;
        count = r.count ∙ sym o.count;
        head = r.head ∙ sym o.head;
        floor = r.floor ∙ sym h.same ∙ sym o.floor;
        before = omega (arith, r.before, o.last);
        high = λ b l ne.
            let nh : b ≡ s.head → ⊥ = λ e. ne (e ∙ sym o.head) in
            let d : b < s.blocks = omega (arith, o.blocks) in o.high b d nh ∙ r.high b d nh;
        kept = λ k l ne. kept k (back k l) ne (ℕ_discrete k i);
        copies = copies;
        enough = λ j lj.
            let n = next_near h j lj in
            let a : in_block t (t.block j) ≡ in_block t (s.block i) = ap (in_block t) (near j (back j lj.real) n.0 ∙ n.1) in
            omega (arith, a, fewer, r.enough i low, o.used, o.per);
      }
    where
      kept : (k : ℕ) → k < s.count → (t.block k ≡ t.head → ⊥) → Dec (k ≡ i) → Same r.opened k t k
      kept k l ne (yes e) = absurd (ne (ap t.block e ∙ here ∙ sym o.head))
      kept k l ne (no d) =
          let q = r.kept k l (λ e. ne (near k l d ∙ e ∙ sym o.head)) in
          let n = o.kept k l d in
          record { block = n.block ∙ q.block; index = n.index ∙ q.index; number = n.number ∙ q.number }

      copies : t.used ≡ in_block t t.head
      copies = let a : in_block t t.head ≡ in_block t s.head = ap (in_block t) o.head in omega (arith, a, more, o.used, r.copies)

  -- the floor that passes the block frees it
  pub freed : Rises s i f → Free t (s.block i)
  freed h =
      record {
        real = omega (arith, w.inside i low.real, o.blocks);
        below =
            let a : t.high (s.block i) ≡ s.high (s.block i) = o.high (s.block i) (w.inside i low.real) source in
            elim h.some [
              | inl k ↦ omega (arith, a, o.floor, k.3, passes k.0 k.1 k.2)
              | inr e ↦ omega (arith, a, o.floor, e.1, w.highest (s.block i) (w.inside i low.real))
            ];
        other = λ e. source (e ∙ o.head);
      }
    where
      passes : (k : ℕ) → k < s.count → (k ≡ i → ⊥) → s.high (s.block i) < s.number k
      passes k l ne =
          w.order i k low.real l (λ e. h.alone k l ne (sym e))
          (elim (ℕ_discrete (s.number i) (s.number k)) [ yes e ↦ absurd (ne (sym (w.unlike i k low.real l e))) | no d ↦ omega (arith, low.least k l) ])

  pub copy_spare : Spare t
  copy_spare =
      elim c.spare [
        | inl g ↦ inl (g.0, free_stays g.0 g.1)
        | inr r ↦ elim carries [ inl h ↦ inr (scratch_stays h r) | inr h ↦ inl (s.block i, freed h) ]
      ]

  copy_done : ((k : ℕ) → k < t.count → m < t.number k) → m < t.floor
  copy_done h =
      elim carries [
        | inl g ↦
            (let a : s.high (s.block g.mate) ≡ s.high (s.block i) = ap s.high g.near in
            absurd (omega (arith, a, (c.olds i low.real was).0, w.held g.mate g.real, h g.mate (omega (arith, g.real, o.count)), (o.kept g.mate g.real g.other).number)))
        | inr g ↦
            elim g.some [
              | inl k ↦ omega (arith, k.3, o.floor, h k.0 (omega (arith, k.1, o.count)), (o.kept k.0 k.1 k.2).number)
              | inr e ↦ omega (arith, e.1, o.floor, c.since)
            ]
      ]

  pub copy_making : Making m t
  copy_making =
      record {
        sound = sound;
        headed = omega (arith, o.head, o.blocks, c.headed);
        since = omega (arith, o.last, c.since);
        olds = λ k l h.
            elim (ℕ_discrete k i) [
              | yes e ↦ (let a : t.number k ≡ t.number i = ap t.number e in absurd (omega (arith, a, o.number_here, c.since)))
              | no ne ↦
                  (let q = c.olds k (back k l) (omega (arith, (o.kept k (back k l) ne).number)) in
                  let a : t.high (t.block k) ≡ t.high (s.block k) = ap t.high (near k (back k l) ne) in
                  (omega (arith, a, o.high (s.block k) (w.inside k (back k l)) q.1, q.0), λ e. q.1 (sym (near k (back k l) ne) ∙ e ∙ o.head)))
            ];
        copies = (let a : in_block t t.head ≡ in_block t s.head = ap (in_block t) o.head in omega (arith, a, more, o.used, c.copies));
        full = λ b l ne h.
            let nh : b ≡ s.head → ⊥ = λ e. ne (e ∙ sym o.head) in
            let r : b < s.blocks = omega (arith, o.blocks) in
            let g : m < s.high b = omega (arith, o.high b r nh) in
            let ni : b ≡ s.block i → ⊥ = λ e. (let a : s.high b ≡ s.high (s.block i) = ap s.high e in omega (arith, a, (c.olds i low.real was).0)) in
            omega (arith, others b nh ni, c.full b r nh g, o.per);
        done = λ p. copy_done;
        spent = omega (arith, o.last, o.count, old_less, c.spent);
        spare = copy_spare;
      }
