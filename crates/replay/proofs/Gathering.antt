-- A page that begins anew.
use Rattle.std.proofs.Common.{◌≡◌, ℕ, zero, suc, ◌+◌, ◌<◌, ◌≤◌, ◌⊎◌, inl, inr, List, [], ◌∷◌, sym, refl, ap, ◌∙◌, subst, arith}
use Rattle.page.specs.declared.fields.Header.{Header}
use Rattle.replay.specs.declared.group.Group.{Group}
use Rattle.replay.specs.declared.group.Group.TheVariants.{Idle, Part, Whole}
use Rattle.replay.specs.Gathered.{Follows, Run, NewestIs, Gathers, Starts}

-- the newest page tells how long the run is, and of what size the group
pub newest_run : (k size : ℕ) (h : Header) (pages : List Header) → Run k size (h ∷ pages) → (k ≡ h.index + 1) × (h.size ≡ size)
newest_run zero size h pages r = absurd r
newest_run (suc zero) size h pages r = (omega (arith, r.0), r.1)
newest_run (suc (suc k)) size h [] r = absurd r
newest_run (suc (suc k)) size h (g ∷ pages) r = (omega (arith, r.0), r.1)

-- a page that goes on with a run of k pages
run_more : (k size last : ℕ) (h : Header) (pages : List Header) → Run k size pages → NewestIs last pages → Follows h last k size → Run (k + 1) size (h ∷ pages)
run_more k size last h [] r newest f = absurd newest
run_more zero size last h (g ∷ pages) r newest f = absurd r
run_more (suc k) size last h (g ∷ pages) r newest f =
    let e : suc (suc k) ≡ suc k + 1 = omega arith in
    subst (λ i. Run i size (h ∷ (g ∷ pages))) e (f.indexed, f.sized, f.numbered ∙ ap (λ n. n + 1) newest, r)

-- no run of two or more pages ends with this page
abbrev NoneLonger : Header → List Header → Type 0
NoneLonger h pages = (k size : ℕ) → suc (suc k) ≤ size → Run (suc (suc k)) size (h ∷ pages) → ⊥

begun : (h : Header) (pages : List Header) (g : Group) → Starts h g → NoneLonger h pages → Gathers (h ∷ pages) g
begun h pages Idle s none = idle
  where
    idle : (k size : ℕ) → k ≤ size → Run k size (h ∷ pages) → ⊥
    idle zero size le r = r
    idle (suc zero) size le r = omega (arith, s r.0, r.1)
    idle (suc (suc k)) size le r = none k size le r
begun h pages (Part last next size) s none =
    (subst (λ k. Run k size (h ∷ pages)) (sym s.3) (s.0, s.1), omega (arith, s.2, s.3), s.4)
begun h pages (Whole size) s none =
    subst (λ k. Run k k (h ∷ pages)) (sym s.2) (s.0, s.1)

-- an idle group has no run that the page could go on with
longer_idle : (h : Header) (pages : List Header) → Gathers pages Idle → NoneLonger h pages
longer_idle h [] idle k size le r = r
longer_idle h (g ∷ pages) idle k size le r = idle (suc k) size (omega arith) r.3

-- a whole group has all its pages
longer_whole : (h : Header) (pages : List Header) (full : ℕ) → Gathers pages (Whole full) → NoneLonger h pages
longer_whole h [] full whole k size le r = r
longer_whole h (g ∷ pages) full whole k size le r =
    let a = newest_run full full g pages whole in
    let b = newest_run (suc k) size g pages r.3 in
    omega (arith, a.0, a.1, b.0, b.1)

-- a page that does not follow ends no run with what was gathered
longer_part : (h : Header) (pages : List Header) (last next full : ℕ) → Gathers pages (Part last next full) → (Follows h last next full → ⊥) → NoneLonger h pages
longer_part h [] last next full part no-page k size le r = r
longer_part h (g ∷ pages) last next full part no-page k size le r =
    let a = newest_run next full g pages part.0 in
    let b = newest_run (suc k) size g pages r.3 in
    no-page (record {
      numbered = r.2 ∙ ap (λ n. n + 1) (sym part.2);
      indexed = omega (arith, r.0, a.0, b.0);
      sized = r.1 ∙ omega (arith, a.1, b.1);
      more = part.1;
    })

pub from_idle : (h : Header) (pages : List Header) (g : Group) → Starts h g → Gathers pages Idle → Gathers (h ∷ pages) g
from_idle h pages g s idle = begun h pages g s (longer_idle h pages idle)

pub from_whole : (h : Header) (pages : List Header) (g : Group) (full : ℕ) → Starts h g → Gathers pages (Whole full) → Gathers (h ∷ pages) g
from_whole h pages g full s whole = begun h pages g s (longer_whole h pages full whole)

-- no part of a group has come
pub from_no_part : (h : Header) (pages : List Header) (was g : Group) → (was ≡ Idle) ⊎ ((full : ℕ) × (was ≡ Whole full)) → Starts h g → Gathers pages was → Gathers (h ∷ pages) g
from_no_part h pages was g (inl e) s gathers = from_idle h pages g s (subst (Gathers pages) e gathers)
from_no_part h pages was g (inr (full, e)) s gathers = from_whole h pages g full s (subst (Gathers pages) e gathers)

pub from_part : (h : Header) (pages : List Header) (g : Group) (last next full : ℕ) → Starts h g → (Follows h last next full → ⊥) → Gathers pages (Part last next full) → Gathers (h ∷ pages) g
from_part h pages g last next full s no-page part = begun h pages g s (longer_part h pages last next full part no-page)

-- a page that follows takes the group on, or makes it whole
pub gone_on : (h : Header) (pages : List Header) (last next full : ℕ) → Follows h last next full → (next + 1 ≡ full → ⊥) → Gathers pages (Part last next full) → Gathers (h ∷ pages) (Part h.number (next + 1) full)
gone_on h pages last next full f more part = (run_more next full last h pages part.0 part.2 f, less next full f.more more, refl)
  where
    less : (a b : ℕ) → a < b → (a + 1 ≡ b → ⊥) → a + 1 < b
    less a b lt ne = omega arith

pub made_whole : (h : Header) (pages : List Header) (last next full : ℕ) → Follows h last next full → next + 1 ≡ full → Gathers pages (Part last next full) → Run h.size h.size (h ∷ pages)
made_whole h pages last next full f e part =
    subst (λ s. Run s s (h ∷ pages)) (sym f.sized) (subst (λ k. Run k full (h ∷ pages)) e (run_more next full last h pages part.0 part.2 f))
