-- The highest numbers of blocks, one page further, and of a whole chip.
use Rattle.std.proofs.Common.{◌≡◌, ℕ, ◌+◌, ◌*◌, ◌/◌, ◌%◌, ◌<◌, ◌≤◌, ◌≢◌, ◌⊎◌, List, length, get_or, set, sym, ap, ◌∙◌, subst, inl, inr, mod-lt, mul_comm, add-mul, one-mul, arith, length-set}
use native.Mathlib.Decide.{ℕ_discrete, dec_lt}
use native.Mathlib.Nat.{div-add-mod, div-eq_of_lt-le}
use Rattle.std.proofs.lemmas.List.{get_or-set_same, get_or-set_other, get_or_default}
use Rattle.flash.specs.Chip.{Chip}
use Rattle.replay.specs.declared.seen.Seen.{Seen}
use Rattle.replay.specs.Remembers.{Remembers}
use Rattle.replay.specs.Seen.{seen_number}
use Rattle.replay.specs.Tops.{BlockTop, RisingNumbers, TopAmong, Tops}
use Rattle.replay.proofs.Nothing.{nothing}
use Rattle.replay.proofs.Tied.{at, page_at}

split : (i j : ℕ) → j < i + 1 → (j < i) ⊎ (j ≡ i)
split i j h = elim (dec_lt j i) [ yes l ↦ inl l | no g ↦ inr (omega arith) ]

module _ (xs : List Seen) (n i : ℕ) (lt : i < length xs) (rising : RisingNumbers xs) where
  new_top : (b : ℕ) → (get_or xs i nothing).place / n ≡ b → (t : ℕ) → t ≡ seen_number (get_or xs i nothing) → TopAmong xs n (i + 1) b t
  new_top b e t is =
      record {
        above = λ j d h s. elim (split i j h) [
          | inl l ↦ omega (arith, rising j i d l lt, ap seen_number (get_or_default xs i d nothing lt))
          | inr o ↦ omega (arith, ap (λ (k : ℕ). seen_number (get_or xs k d)) o, ap seen_number (get_or_default xs i d nothing lt))
        ];
        here = inr (i, omega arith, λ d. (ap (λ (s : Seen). s.place / n) (get_or_default xs i d nothing lt) ∙ e, ap seen_number (get_or_default xs i d nothing lt) ∙ sym is));
      }

  old_top : (b t : ℕ) → ((get_or xs i nothing).place / n ≡ b → ⊥) → TopAmong xs n i b t → TopAmong xs n (i + 1) b t
  old_top b t ne top =
      record {
        above = λ j d h s. elim (split i j h) [
          | inl l ↦ top.above j d l s
          | inr o ↦ absurd (ne (ap (λ (s : Seen). s.place / n) (get_or_default xs i nothing d lt) ∙ ap (λ (k : ℕ). (get_or xs k d).place / n) (sym o) ∙ s))
        ];
        here = elim top.here [ inl z ↦ inl z | inr (k, h, is) ↦ inr (k, omega arith, is) ];
      }

  pub tops_on : (tops : List ℕ) (place number : ℕ) → place ≡ (get_or xs i nothing).place / n → number ≡ seen_number (get_or xs i nothing) → place < length tops
      → ((b : ℕ) → b < length tops → TopAmong xs n i b (get_or tops b 0))
      → (b : ℕ) → b < length (set tops place number) → TopAmong xs n (i + 1) b (get_or (set tops place number) b 0)
  tops_on tops place number is num inside inv b h =
      elim (ℕ_discrete b place) [
        | yes e ↦ new_top b (sym (e ∙ is)) (get_or (set tops place number) b 0) (ap (λ (k : ℕ). get_or (set tops place number) k 0) e ∙ get_or-set_same tops place number 0 inside ∙ num)
        | no ne ↦ (let o : b ≢ place = ne in
            subst (TopAmong xs n (i + 1) b) (sym (get_or-set_other tops place b number 0 o)) (old_top b (get_or tops b 0) (λ e. ne (sym e ∙ sym is)) (inv b (omega (arith, length-set tops place number)))))
      ]

-- a place lies in the block that its quotient names
in_block : (n b q : ℕ) → 0 < n → q / n ≡ b → (n * b ≤ q) × (q < n * b + n)
in_block n b q some e =
    let parts : n * b + q % n ≡ q = subst (λ (x : ℕ). n * x + q % n ≡ q) e (div-add-mod q n) in
    let rest : q % n < n = mod-lt q some in
    (omega arith, omega arith)

of_block : (n b q : ℕ) → n * b ≤ q → q < n * b + n → q / n ≡ b
of_block n b q low high =
    let l : b * n ≤ q = omega (arith, mul_comm n b) in
    let h : q < (b + 1) * n = omega (arith, mul_comm n b, add-mul b 1 n, one-mul n) in
    div-eq_of_lt-le n l h

pub block_tops : (c : Chip) (xs : List Seen) → Remembers c (length c.pages) xs → 0 < c.per_block → (tops : List ℕ) → Tops xs c.per_block tops
    → (b : ℕ) → b < length tops → BlockTop c b (get_or tops b 0)
block_tops c xs r some tops all b h =
    let top = all b h in
    record {
      above = λ p here inside. (let (i, is) = at c xs r p here in
          omega (arith, top.above i nothing is.low (ap (λ (s : Seen). s.place / c.per_block) (is.is nothing) ∙ of_block c.per_block b p.place inside.0 inside.1), ap seen_number (is.is nothing)));
      here = elim top.here [
        | inl z ↦ inl z
        | inr (i, lt, both) ↦ (let (p, is) = page_at c xs r i lt in
            inr (p, is.here, in_block c.per_block b p.place some (sym (ap (λ (s : Seen). s.place / c.per_block) (is.is nothing)) ∙ (both nothing).0), sym (ap seen_number (is.is nothing)) ∙ (both nothing).1))
      ];
    }
