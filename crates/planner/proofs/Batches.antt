-- The slots, one page of a batch further.
use Rattle.std.proofs.Common.{◌≡◌, ℕ, ◌+◌, ◌⊎◌, List, get_or, sym, ap, ◌∙◌, subst, inl, inr, arith}
use native.Mathlib.Decide.{ℕ_discrete}
use Rattle.object.specs.declared.key.Key.{Key}
use Rattle.planner.specs.Slots.{Holds, Put, Forgets}
use Rattle.planner.specs.Written.{Speaks, Silent, slot_at, ByPage, Written, Said}
use Rattle.planner.proofs.Limits.{below_one}
use Rattle.planner.specs.declared.says.Says.{Says}
use Rattle.planner.specs.declared.says.Says.TheVariants.{Tells, Gone}
use Rattle.planner.specs.Order.{Slot}

module _ (xs : List Slot) (pages : List Says) (b u n m : ℕ) (ys : List Slot) (w : Written xs pages b u n m ys) where
  fewer : (i : ℕ) (k : Key) → Silent pages i (m + 1) k → Silent pages i m k
  fewer i k s j d l h = s j d l (omega arith)

  more : (i : ℕ) (k : Key) → Silent pages i m k → ((d : Says) → Speaks (get_or pages m d) k → ⊥) → Silent pages i (m + 1) k
  more i k s quiet j d l h =
      elim (ℕ_discrete j m) [ yes e ↦ (λ p. quiet d (subst (λ t. Speaks (get_or pages t d) k) e p)) | no ne ↦ s j d l (below_one j m h ne) ]

  -- a slot that the page m does not speak to
  later : (x : Slot) → ((d : Says) → Speaks (get_or pages m d) x.key → ⊥) → (Holds xs x × Silent pages 0 m x.key) ⊎ ((j : ℕ) × ByPage pages b u n m x j)
      → (Holds xs x × Silent pages 0 (m + 1) x.key) ⊎ ((j : ℕ) × ByPage pages b u n (m + 1) x j)
  later x quiet (inl h) = inl (h.0, more 0 x.key h.1 quiet)
  later x quiet (inr (j, p)) =
      inr (j, record { real = omega (arith, p.real); tells = p.tells; newest = more (j + 1) x.key p.newest quiet; is = p.is })

  -- one that an earlier page told
  earlier : (x : Slot) (j : ℕ) → ByPage pages b u n (m + 1) x j → (j ≡ m → ⊥) → Holds ys x
  earlier x j p ne =
      w.told x j (record { real = below_one j m p.real ne; tells = p.tells; newest = fewer (j + 1) x.key p.newest; is = p.is })

  pub written_tells : (k : Key) (zs : List Slot) → ((d : Says) → get_or pages m d ≡ Tells k) → Put ys (slot_at b u n m k) zs → Written xs pages b u n (m + 1) zs
  written_tells k zs page p =
      record {
        rising = p.rising;
        kept = λ x h s. p.kept x (w.kept x h (fewer 0 x.key s)) (λ e. s m (Gone 0) (omega arith) (omega arith) (speaks (Gone 0) x.key (sym e)));
        told = λ x j q.
            elim (ℕ_discrete j m) [
              | yes e ↦ subst (Holds zs) (sym (now x j q e)) p.here
              | no ne ↦ p.kept x (earlier x j q ne) (λ e. q.newest m (Gone 0) (omega (arith, below_one j m q.real ne)) (omega arith) (speaks (Gone 0) x.key (sym e)))
            ];
        only = λ x h.
            elim (p.only x h) [
              | inl e ↦ inr (m, record { real = omega arith; tells = λ d. page d ∙ ap Tells (sym (ap (λ (y : Slot). y.key) e)); newest = λ j d l t. absurd (omega arith); is = e ∙ ap (slot_at b u n m) (sym (ap (λ (y : Slot). y.key) e)) })
              | inr (h, ne) ↦ later x (λ d q. ne (sym (heard d x.key q))) (w.only x h)
            ];
        long = omega (arith, w.long, p.long);
      }
    where
      speaks : (d : Says) (j : Key) → k ≡ j → Speaks (get_or pages m d) j
      speaks d j e = subst (λ s. Speaks s j) (sym (page d)) e

      heard : (d : Says) (j : Key) → Speaks (get_or pages m d) j → k ≡ j
      heard d j q = subst (λ s. Speaks s j) (page d) q

      now : (x : Slot) (j : ℕ) → ByPage pages b u n (m + 1) x j → j ≡ m → x ≡ slot_at b u n m k
      now x j q e =
          let same : Tells x.key ≡ Tells k = sym (q.tells (Gone 0)) ∙ ap (λ t. get_or pages t (Gone 0)) e ∙ page (Gone 0) in
          let key : x.key ≡ k = cc in
          q.is ∙ ap (λ t. slot_at b u n t x.key) e ∙ ap (slot_at b u n m) key

  pub written_gone : (file : ℕ) (zs : List Slot) → ((d : Says) → get_or pages m d ≡ Gone file) → Forgets ys file zs → Written xs pages b u n (m + 1) zs
  written_gone file zs page f =
      record {
        rising = f.rising;
        kept = λ x h s. f.kept x (w.kept x h (fewer 0 x.key s)) (λ e. s m (Gone 0) (omega arith) (omega arith) (speaks (Gone 0) x.key e));
        told = λ x j q.
            elim (ℕ_discrete j m) [
              | yes e ↦ absurd (clash x j q e)
              | no ne ↦ f.kept x (earlier x j q ne) (λ e. q.newest m (Gone 0) (omega (arith, below_one j m q.real ne)) (omega arith) (speaks (Gone 0) x.key e))
            ];
        only = λ x h. (let (old, ne) = f.only x h in later x (λ d q. ne (heard d x.key q)) (w.only x old));
        long = omega (arith, w.long, f.short);
      }
    where
      speaks : (d : Says) (j : Key) → j.file ≡ file → Speaks (get_or pages m d) j
      speaks d j e = subst (λ s. Speaks s j) (sym (page d)) e

      heard : (d : Says) (j : Key) → Speaks (get_or pages m d) j → j.file ≡ file
      heard d j q = subst (λ s. Speaks s j) (page d) q

      clash : (x : Slot) (j : ℕ) → ByPage pages b u n (m + 1) x j → j ≡ m → ⊥
      clash x j q e =
          let same : Tells x.key ≡ Gone file = sym (q.tells (Gone 0)) ∙ ap (λ t. get_or pages t (Gone 0)) e ∙ page (Gone 0) in
          let z : ◌≡◌ {A = ℕ} 0 1 = cc in omega arith

  -- by what the page says
  pub written_more : (s : Says) (zs : List Slot) → ((d : Says) → get_or pages m d ≡ s) → Said ys s b (u + m) (n + m) zs → Written xs pages b u n (m + 1) zs
  written_more (Tells k) zs page h = written_tells k zs page h
  written_more (Gone file) zs page h = written_gone file zs page h
