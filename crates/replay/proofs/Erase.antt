-- An erase of a block whose pages all lie below the floor, torn or not, tells nothing: for any two logs.
use Rattle.std.proofs.Common.{ℕ, ◌<◌, ◌≤◌, arith}
use Rattle.replay.specs.Log.{Log, Logged, number_of, floor_of, Counts, Top, Distinct, Same}
use Rattle.replay.specs.Changes.{Within, Fewer, Grouped}
use Rattle.replay.proofs.Base.{Alike, alike_same, complete_more, same_top}

pub erase_alike : (L M : Log) (n b f : ℕ) → ((p : Logged) → L p → Within n b p → number_of p < f) → Grouped L n b f → Fewer L M n b
    → Alike (Counts L f) (Counts M f)
erase_alike L M n b f free grouped less = alike_same to from
  where
    outside : (p : Logged) → L p → f ≤ number_of p → Within n b p → ⊥
    outside p here high inside = omega (arith, free p here inside)

    to : (p : Logged) → Counts L f p → Counts M f p
    to p c =
        record {
          here = less.rest p c.here (outside p c.here c.high);
          high = c.high;
          whole = λ k lt.
              let (q, here, part) = c.whole k lt in
              (q, less.rest q here (λ inside. outside p c.here c.high (grouped p q k c.here here c.high part inside)), part);
        }

    from : (p : Logged) → Counts M f p → Counts L f p
    from p c = record { here = less.only p c.here; high = c.high; whole = complete_more less.only p c.whole }

pub torn_erase : (L M : Log) (n b : ℕ) (t : Logged) → Distinct L → Top L t → floor_of t ≤ number_of t
    → ((p : Logged) → L p → Within n b p → number_of p < floor_of t) → Grouped L n b (floor_of t) → Fewer L M n b → Top M t × Same L M
torn_erase L M n b t d top sound free grouped less =
    let there : M t = less.rest t top.here (λ inside. omega (arith, free t top.here inside)) in
    let top_m : Top M t = record { here = there; highest = λ p m. top.highest p (less.only p m) } in (
      top_m,
      same_top t t d (λ p q x y e. d p q (less.only p x) (less.only q y) e) top top_m (erase_alike L M n b (floor_of t) free grouped less),
    )
