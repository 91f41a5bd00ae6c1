-- The slots after a batch, as the state sees them.
use Rattle.std.proofs.Common.{◌≡◌, ℕ, ◌+◌, ◌<◌, ◌≤◌, ◌⊎◌, List, length, get_or, set, Some, Option, sym, refl, ap, ◌∙◌, inl, inr, arith}
use Rattle.std.proofs.lemmas.List.{get_or-set_same, get_or-set_other}
use Rattle.object.specs.declared.key.Key.{Key}
use Rattle.planner.specs.State.{State, Sound, limit}
use Rattle.planner.specs.Batches.{Batched}
use Rattle.planner.specs.Shape.{shape, blank, head_of, used_of}
use Rattle.planner.specs.Slots.{listed}
use Rattle.planner.specs.Written.{ByPage, Written}
use Rattle.planner.specs.declared.head.Head.{Head}
use Rattle.planner.specs.declared.says.Says.{Says}
use Rattle.planner.specs.declared.says.Says.TheVariants.{Tells, Gone}
use Rattle.planner.specs.Order.{Slot}
use Rattle.planner.specs.declared.slots.Slots.{Slots}
use Rattle.planner.proofs.Copying.{known}
use Rattle.planner.proofs.Firsts.{Among, holds_among, among_holds, the_rising, one_place}

module _ (slots after : Slots) (high : List ℕ) (per blocks floor last : ℕ) (x : Option Head) (h : Head) (is : x ≡ Some h) (pages : List Says)
    (sound : Sound (shape slots high per blocks floor last x)) (written : Written (listed slots) pages h.block h.used (last + 1) (length pages) (listed after)) where
  abbrev s : State
  s = shape slots high per blocks floor last x

  abbrev g : ℕ
  g = length pages

  abbrev at : ℕ → Slot
  at k = get_or (listed after) k blank

  -- a slot told as before, or by a page
  abbrev Old : ℕ → Type 0
  Old k = Among (listed slots) (at k)

  abbrev Told : ℕ → Type 0
  Told k = (j : ℕ) × ByPage pages h.block h.used (last + 1) g (at k) j

  which : (k : ℕ) → k < length (listed after) → Old k ⊎ Told k
  which k l =
      elim (written.only (at k) (among_holds (listed after) (at k) (k, l, refl))) [
        | inl (o, quiet) ↦ inl (holds_among (listed slots) (at k) o)
        | inr p ↦ inr p
      ]

  told_number : (k : ℕ) → (p : Told k) → (at k).number ≡ last + 1 + p.0
  told_number k p = ap (λ (y : Slot). y.number) p.1.is

  old_number : (k : ℕ) → Old k → (at k).number ≤ last
  old_number k o = omega (arith, known s sound o.0 o.1, ap (λ (y : Slot). y.number) o.2)

  one_key : (j k : ℕ) → j < length (listed after) → k < length (listed after) → (at j).key ≡ (at k).key → j ≡ k
  one_key j k l m e = one_place (listed after) (the_rising after) j k l m e

  same_page : (a b : ℕ) (j k : Key) → a ≡ b → ((d : Says) → get_or pages a d ≡ Tells j) → ((d : Says) → get_or pages b d ≡ Tells k) → j ≡ k
  same_page a b j k e p q =
      let same : Tells j ≡ Tells k = sym (p (Gone 0)) ∙ ap (λ i. get_or pages i (Gone 0)) e ∙ q (Gone 0) in cc

  unlike : (j k : ℕ) → j < length (listed after) → k < length (listed after) → Old j ⊎ Told j → Old k ⊎ Told k → (at j).number ≡ (at k).number → j ≡ k
  unlike j k l m (inl a) (inl b) e =
      let q : a.0 ≡ b.0 = sound.unlike a.0 b.0 a.1 b.1 (ap (λ (y : Slot). y.number) a.2 ∙ e ∙ ap (λ (y : Slot). y.number) (sym b.2)) in
      one_key j k l m (ap (λ (y : Slot). y.key) (sym a.2 ∙ ap (λ i. get_or (listed slots) i blank) q ∙ b.2))
  unlike j k l m (inr a) (inr b) e =
      one_key j k l m (same_page a.0 b.0 (at j).key (at k).key (omega (arith, told_number j a, told_number k b)) a.1.tells b.1.tells)
  unlike j k l m (inl a) (inr b) e = absurd (omega (arith, old_number j a, told_number k b))
  unlike j k l m (inr a) (inl b) e = absurd (omega (arith, old_number k b, told_number j a))

  head_is : head_of blocks x ≡ h.block
  head_is = ap (head_of blocks) is

  used_is : used_of per x ≡ h.used
  used_is = ap (used_of per) is

  module _ (f : ℕ) (headed : h.block < length high) (few : length (listed after) ≤ limit per blocks) where
    abbrev t : State
    t = shape after (set high h.block (last + g)) per blocks f (last + g) (Some (record { block = h.block; used = h.used + g }))

    pub batch_writes : Batched s g f t
    batch_writes =
        record {
          per = refl;
          blocks = refl;
          limited = few;
          each = λ k l.
              elim (which k l) [
                | inl o ↦ inl (o.0, o.1, record { block = ap (λ (y : Slot). y.place.block) (sym o.2); index = ap (λ (y : Slot). y.place.index) (sym o.2); number = ap (λ (y : Slot). y.number) (sym o.2) })
                | inr p ↦ inr (
                  p.0,
                  p.1.real,
                  record {
                    block = ap (λ (y : Slot). y.place.block) p.1.is ∙ sym head_is;
                    index = ap (λ (y : Slot). y.place.index) p.1.is ∙ ap (λ (u : ℕ). u + p.0) (sym used_is);
                    number = ap (λ (y : Slot). y.number) p.1.is;
                  },
                )
              ];
          unlike = λ j k l m e. unlike j k l m (which j l) (which k m) e;
          here = ap (λ (b : ℕ). get_or (set high h.block (last + g)) b 0) head_is ∙ get_or-set_same high h.block (last + g) 0 headed;
          high = λ b l ne. get_or-set_other high h.block b (last + g) 0 (λ e. ne (e ∙ sym head_is));
          floor = refl;
          last = refl;
          head = sym head_is;
          used = ap (λ (u : ℕ). u + g) (sym used_is);
        }
