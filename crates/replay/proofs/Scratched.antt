-- Any erase of a scratch block changes nothing told: for any logs that have a top page.
use Rattle.std.proofs.Common.{◌≡◌, ℕ, ◌+◌, ◌*◌, ◌≤◌, ◌⊎◌, sym, ap, subst, inl, inr, arith}
use native.Mathlib.Decide.{dec_le}
use Rattle.replay.specs.Log.{Log, Logged, number_of, floor_of, Counts, Top, Distinct, Same}
use Rattle.replay.specs.Changes.{On, Within, Fewer, Without, Scratch, Echo}
use Rattle.replay.specs.Crashes.{ScratchErase}
use Rattle.replay.proofs.Base.{Alike, alike_trans, alike_sym, complete_more, same_top}
use Rattle.replay.proofs.Agree.{agree}
use Rattle.replay.proofs.Highest.{top_in}

pub within_dec : (n b : ℕ) (p : Logged) → Dec (Within n b p)
within_dec n b p =
    elim (dec_le (n * b) p.place) [
      | yes from ↦ elim (dec_le (n * b + n) p.place) [ yes past ↦ no (λ w. omega (arith, w.1)) | no before ↦ yes (from, omega arith) ]
      | no before ↦ no (λ w. before w.0)
    ]

module _ (L : Log) (n b : ℕ) (t : Logged) (d : Distinct L) (scratch : Scratch L n b t) (M : Log) (less : Fewer L M n b) where
  abbrev R : Log
  R = Counts (Without L n b) (floor_of t)

  scratch_alike : Alike R (Counts M (floor_of t))
  scratch_alike = agree R (Counts M (floor_of t)) more (λ p c. echo p c (within_dec n b p))
    where
      more : (p : Logged) → R p → Counts M (floor_of t) p
      more p c =
          record {
            here = less.rest p c.here.0 c.here.1;
            high = c.high;
            whole = complete_more (λ q r. less.rest q r.0 r.1) p c.whole;
          }

      echo : (p : Logged) → Counts M (floor_of t) p → Dec (Within n b p) → R p ⊎ Echo R p
      echo p c (yes inside) = inr (scratch.echoes p (less.only p c.here) inside c.high)
      echo p c (no outside) =
          inl (record {
            here = (less.only p c.here, outside);
            high = c.high;
            whole = λ k lt.
                let (q, m, part) = c.whole k lt in
                let there : L q = less.only q m in
                (q, (there, λ inside. outside (scratch.grouped p q k (less.only p c.here) there c.high part inside)), part);
          })

  pub scratch_top : (u : Logged) → Top M u → Alike R (Counts M (floor_of u))
  scratch_top u top = subst (λ (f : ℕ). Alike R (Counts M f)) (sym (go (within_dec n b u))) scratch_alike
    where
      le : number_of t ≤ number_of u
      le = top.highest t (less.rest t scratch.top.here.0 scratch.top.here.1)

      go : Dec (Within n b u) → floor_of u ≡ floor_of t
      go (yes inside) = scratch.floors u (less.only u top.here) inside (omega (arith, le, scratch.sound))
      go (no outside) =
          ap floor_of
          (d u t (less.only u top.here) scratch.top.here.0
          (omega (arith, le, scratch.top.highest u (less.only u top.here, outside))))

pub scratch_keeps : (L M : Log) (n b : ℕ) (t u w : Logged) → Distinct L → Scratch L n b t → Fewer L M n b → Top L u → Top M w → Same L M
scratch_keeps L M n b t u w d scratch less tl tm =
    same_top u w d (λ p q x y e. d p q (less.only p x) (less.only q y) e) tl tm
    (alike_trans (alike_sym (scratch_top L n b t d scratch L (record { only = λ p m. m; rest = λ p m out. m }) u tl))
    (scratch_top L n b t d scratch M less w tm))

pub scratch_erase : ScratchErase
scratch_erase xs ys n b t d scratch less =
    let here : On xs t = scratch.top.here.0 in
    let u = top_in xs t here in
    let w = top_in ys t (less.rest t here scratch.top.here.1) in
    scratch_keeps (On xs) (On ys) n b t u.0 w.0 d scratch less u.1 w.1
