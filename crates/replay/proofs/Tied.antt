-- What the remembered pages show is what the log of the chip shows.
use Rattle.std.proofs.Common.{◌≡◌, ℕ, ◌<◌, ◌≤◌, Bool, List, length, Option, Some, get_or, Ok, Result, sym, refl, ap, ◌∙◌, subst, arith}
use native.Mathlib.Decide.{dec_lt}
use Rattle.std.proofs.lemmas.List.{get_or_default}
use Rattle.flash.specs.Chip.{Chip, page}
use Rattle.object.specs.declared.key.Key.{Key}
use Rattle.object.specs.declared.value.Object.{Object}
use Rattle.object.specs.declared.value.Object.TheVariants as object
use Rattle.page.specs.declared.fields.Content.{Content}
use Rattle.page.specs.declared.fields.Content.TheVariants.{Note, Gone}
use Rattle.page.specs.declared.fields.Content.TheVariants as content
use Rattle.page.specs.declared.fields.Entry.{Entry}
use Rattle.page.specs.declared.fields.Page.{Page}
use Rattle.page.specs.declared.fields.PageFault.{PageFault}
use Rattle.page.specs.Decoded.{decoded}
use Rattle.replay.specs.declared.seen.Says.{Says}
use Rattle.replay.specs.declared.seen.Says.TheVariants.{Sets}
use Rattle.replay.specs.declared.seen.Seen.{Seen}
use Rattle.replay.specs.Log.{LogOf, Logged, number_of, Complete, Counts, SpeaksBy, GivesBy, Speaks, Gives, Shown, Distinct}
use Rattle.replay.specs.Changes.{On}
use Rattle.replay.specs.Marks.{Marks, GroupedIn, seen_index, seen_size}
use Rattle.replay.specs.Remembers.{Remembers}
use Rattle.replay.specs.Seen.{says_by, seen_of, seen_number}
use Rattle.replay.specs.Shows.{SaidTo, CountedAt, ShowsAt}
use Rattle.replay.specs.Walks.{Newest}
use Rattle.replay.proofs.Base.{shown_same, complete_more}
use Rattle.replay.proofs.Listed.{listed, listed_to, listed_from}
use Rattle.replay.proofs.Newer.{newest_tells}
use Rattle.replay.proofs.Nothing.{nothing}

-- what a page says, by its content
sets_gives : (file : ℕ) (c : Content) (k : Key) → says_by file c ≡ Some (Sets k) → (v : Object) × GivesBy file c k v
sets_gives file Note k e = let z : ◌≡◌ {A = ℕ} 0 1 = cc in absurd (omega arith)
sets_gives file (content.Entry n) k e = (object.Entry n, (cc, refl))
sets_gives file (content.Chunk n) k e = (object.Chunk n.bytes, (cc, refl))
sets_gives file Gone k e = let z : ◌≡◌ {A = ℕ} 0 1 = cc in absurd (omega arith)

gives_sets : (file : ℕ) (c : Content) (k : Key) (v : Object) → GivesBy file c k v → says_by file c ≡ Some (Sets k)
gives_sets file Note k v g = absurd g
gives_sets file (content.Entry n) k v g = ap (λ (j : Key). Some (Sets j)) (sym g.0)
gives_sets file (content.Chunk n) k v g = ap (λ (j : Key). Some (Sets j)) (sym g.0)
gives_sets file Gone k v g = absurd g

said_speaks : (file : ℕ) (c : Content) (k : Key) → SaidTo (says_by file c) k → SpeaksBy file c k
said_speaks file Note k s = s
said_speaks file (content.Entry n) k s = sym s
said_speaks file (content.Chunk n) k s = sym s
said_speaks file Gone k s = sym s

speaks_said : (file : ℕ) (c : Content) (k : Key) → SpeaksBy file c k → SaidTo (says_by file c) k
speaks_said file Note k s = s
speaks_said file (content.Entry n) k s = sym s
speaks_said file (content.Chunk n) k s = sym s
speaks_said file Gone k s = sym s

-- a page that gives an entry's key an object is that entry
pub entry_by : (file : ℕ) (t : Content) (k : Key) (v : Object) → GivesBy file t k v → k.part ≡ 0 → (e : Entry) × (t ≡ content.Entry e) × (v ≡ object.Entry e)
entry_by file Note k v g z = absurd g
entry_by file (content.Entry e) k v g z = (e, refl, sym g.1)
entry_by file (content.Chunk n) k v g z = absurd (omega (arith, z, ap (λ (j : Key). j.part) g.0))
entry_by file Gone k v g z = absurd g

ok_same : (a b : Page) → ◌≡◌ {A = Result Page PageFault} (Ok a) (Ok b) → a ≡ b
ok_same a b e = cc

-- pages of a chip at one place are one
place_once : (c : Chip) (p q : Logged) → LogOf c p → LogOf c q → p.place ≡ q.place → p ≡ q
place_once c p q hp hq e =
    let same : p.page ≡ q.page = ok_same p.page q.page (sym hp.1 ∙ ap (λ (n : ℕ). decoded (page c n)) e ∙ hq.1) in
    ap (λ (n : ℕ). record { place = n; page = p.page }) e ∙ ap (λ (g : Page). record { place = q.place; page = g }) same

-- of a chip, what is shown is what the newest counted page of the slot says
pub chip_newest : (c : Chip) (f : ℕ) (k : Key) (v : Object) → Distinct (LogOf c) → Shown (Counts (LogOf c) f) k v
    → (p : Logged) × Newest (Counts (LogOf c) f) k p × Gives p k v
chip_newest c f k v d s =
    let (p, n, g) = (newest_tells (listed c) f k v (λ a b ha hb e. d a b (listed_from c a ha) (listed_from c b hb) e)).0 (shown_same to from k v s) in
    (p, record { counted = from p n.counted; speaks = n.speaks; newest = λ q h sp. n.newest q (to q h) sp }, g)
  where
    to : (p : Logged) → Counts (LogOf c) f p → Counts (On (listed c)) f p
    to p h = record { here = listed_to c p h.here; high = h.high; whole = complete_more (listed_to c) p h.whole }

    from : (p : Logged) → Counts (On (listed c)) f p → Counts (LogOf c) f p
    from p h = record { here = listed_from c p h.here; high = h.high; whole = complete_more (listed_from c) p h.whole }

pub newest_shown : (c : Chip) (f : ℕ) (k : Key) (v : Object) (p : Logged) → Distinct (LogOf c) → Newest (Counts (LogOf c) f) k p → Gives p k v
    → Shown (Counts (LogOf c) f) k v
newest_shown c f k v p d n g =
    record {
      by = p;
      counted = n.counted;
      gives = g;
      last = λ q h s l. subst (λ (r : Logged). Gives r k v) (d p q n.counted.here h.here (omega (arith, n.newest q h s))) g;
    }

-- the remembered page at i is this one
pub record Is (c : Chip) (xs : List Seen) (i : ℕ) (p : Logged) : Type 0 where
  pub low : i < length xs
  pub here : LogOf c p
  pub is : (d : Seen) → get_or xs i d ≡ seen_of p

module _ (c : Chip) (xs : List Seen) (r : Remembers c (length c.pages) xs) where
  pub at : (p : Logged) → LogOf c p → (i : ℕ) × Is c xs i p
  at p h = let (i, lt, is) = r.all p h h.0 in (i, record { low = lt; here = h; is = is })

  pub page_at : (i : ℕ) → i < length xs → (p : Logged) × Is c xs i p
  page_at i lt = let (p, h, low, is) = r.each i nothing lt in (p, record { low = lt; here = h; is = λ d. get_or_default xs i d nothing lt ∙ is })

  -- numbers tell pages apart
  pub remembered_distinct : Distinct (LogOf c)
  remembered_distinct p q hp hq e =
      let (i, x) = at p hp in
      let (j, y) = at q hq in
      place_once c p q hp hq (elim (dec_lt i j) [
        | yes l ↦ absurd (omega (arith, r.rising i j nothing l y.low, ap seen_number (x.is nothing), ap seen_number (y.is nothing)))
        | no g ↦ elim (dec_lt j i) [
          | yes l ↦ absurd (omega (arith, r.rising j i nothing l x.low, ap seen_number (x.is nothing), ap seen_number (y.is nothing)))
          | no h ↦ (let one : i ≡ j = omega arith in ap (λ (s : Seen). s.place) (sym (x.is nothing) ∙ ap (λ (n : ℕ). get_or xs n nothing) one ∙ y.is nothing))
        ]
      ])

  module _ (flags : List Bool) (m : Marks xs flags) (f : ℕ) where
    pub counted_to : (i : ℕ) (p : Logged) → Is c xs i p → CountedAt xs flags f i → Counts (LogOf c) f p
    counted_to i p x counted =
        record { here = x.here; high = omega (arith, counted.1 nothing, ap seen_number (x.is nothing)); whole = whole }
      where
        whole : Complete (LogOf c) p
        whole k low =
            let (j, part) = (m i nothing x.low).0 counted.0 k (omega (arith, ap seen_size (x.is nothing))) in
            let (q, y) = page_at j part.here in (
              q,
              y.here,
              record {
                numbered = omega (arith, part.numbered, ap seen_number (y.is nothing), ap seen_index (x.is nothing), ap seen_number (x.is nothing));
                indexed = omega (arith, part.indexed, ap seen_index (y.is nothing));
                sized = omega (arith, part.sized, ap seen_size (y.is nothing), ap seen_size (x.is nothing));
              },
            )

    pub counted_from : (i : ℕ) (p : Logged) → Is c xs i p → Counts (LogOf c) f p → CountedAt xs flags f i
    counted_from i p x counts = ((m i nothing x.low).1 grouped, λ d. omega (arith, counts.high, ap seen_number (x.is d)))
      where
        grouped : GroupedIn xs nothing (get_or xs i nothing)
        grouped k low =
            let (q, hq, part) = counts.whole k (omega (arith, ap seen_size (x.is nothing))) in
            let (j, y) = at q hq in (
              j,
              record {
                here = y.low;
                numbered = omega (arith, part.numbered, ap seen_number (y.is nothing), ap seen_index (x.is nothing), ap seen_number (x.is nothing));
                indexed = omega (arith, part.indexed, ap seen_index (y.is nothing));
                sized = omega (arith, part.sized, ap seen_size (y.is nothing), ap seen_size (x.is nothing));
              },
            )

    pub shows_to : (i : ℕ) (p : Logged) (k : Key) → Is c xs i p → ShowsAt xs flags f i k → Newest (Counts (LogOf c) f) k p × ((v : Object) × Gives p k v)
    shows_to i p k x s =
        let gives = sets_gives p.page.header.file p.page.content k (sym (ap (λ (z : Seen). z.says) (x.is nothing)) ∙ s.sets nothing) in (
          record {
            counted = counted_to i p x s.counted;
            speaks = said_speaks p.page.header.file p.page.content k (subst (λ (w : Option Says). SaidTo w k) (ap (λ (z : Seen). z.says) (x.is nothing)) (subst (λ (w : Option Says). SaidTo w k) (sym (s.sets nothing)) refl));
            newest = newest;
          },
          gives,
        )
      where
        newest : (q : Logged) → Counts (LogOf c) f q → Speaks q k → number_of q ≤ number_of p
        newest q hq sp =
            let (j, y) = at q hq.here in
            elim (dec_lt i j) [
              | yes l ↦ absurd (s.newest j nothing l y.low (counted_from j q y hq)
                  (subst (λ (w : Option Says). SaidTo w k) (sym (ap (λ (z : Seen). z.says) (y.is nothing))) (speaks_said q.page.header.file q.page.content k sp)))
              | no g ↦ elim (dec_lt j i) [
                | yes l ↦ omega (arith, r.rising j i nothing l x.low, ap seen_number (x.is nothing), ap seen_number (y.is nothing))
                | no e ↦ (let one : j ≡ i = omega arith in omega (arith, ap seen_number (sym (y.is nothing) ∙ ap (λ (n : ℕ). get_or xs n nothing) one ∙ x.is nothing)))
              ]
            ]

    pub shows_from : (i : ℕ) (p : Logged) (k : Key) (v : Object) → Is c xs i p → Newest (Counts (LogOf c) f) k p → Gives p k v → ShowsAt xs flags f i k
    shows_from i p k v x n g =
        record {
          counted = counted_from i p x n.counted;
          sets = λ d. ap (λ (z : Seen). z.says) (x.is d) ∙ gives_sets p.page.header.file p.page.content k v g;
          newest = λ j d l jlt counted said. (let (q, y) = page_at j jlt in
              omega (
                arith,
                r.rising i j d l jlt,
                ap seen_number (x.is d),
                ap seen_number (y.is d),
                n.newest q (counted_to j q y counted) (said_speaks q.page.header.file q.page.content k (subst (λ (w : Option Says). SaidTo w k) (ap (λ (z : Seen). z.says) (y.is d)) said)),
              ));
        }
