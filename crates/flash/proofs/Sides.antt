-- What one of two flashes does, the two end to end do.
use Rattle.std.proofs.Common.{◌≡◌, ℕ, ◌+◌, ◌-◌, ◌*◌, ◌<◌, ◌≤◌, min, true, false, ◌&&◌, ◌≢◌, List, length, Ok, Err, sym, refl, ap, ◌∙◌, subst, mul-le-mul_left, mul-add, arith, length-set}
use native.Mathlib.Decide.{dec_lt, ℕ_discrete}
use borrow.Author.Tests.{both_ways}
use Rattle.std.proofs.lemmas.Bool.{and_from, and_right}
use Rattle.flash.specs.declared.fault.FlashFault.TheVariants.{Off, Range, Program, Erase}
use Rattle.flash.specs.Chip.{Chip, Torn, Mixed, filled, page, cleared, programmed, erased}
use Rattle.flash.specs.Joined.{joined, joined_blocks, retold}
use Rattle.flash.specs.Joins.{Shaped, first_within, joined_long, look_first, look_second, look_past, second_within}
use Rattle.flash.specs.Says.{Reads, Programs, Erases}
use Rattle.flash.proofs.Chips.{chip_ext, mixed_same, programmed_here, programmed_else}
use Rattle.flash.proofs.Erasing.{erased_long, erased_below, erased_inside, erased_above}
use Rattle.flash.proofs.Refusals.{Answer}

-- a block lies within its chip
pub block_within : (n : ℕ) (c : Chip) (k : ℕ) → Shaped n c → k < c.blocks → c.per_block * k + c.per_block ≤ length c.pages
block_within n c k s h =
    let le : n * (k + 1) ≤ n * c.blocks = mul-le-mul_left n (let l : k + 1 ≤ c.blocks = omega arith in l) in
    let e : c.per_block * k + c.per_block ≡ n * k + n = ap (λ m. m * k + m) s.spaced in
    omega (arith, e, le, mul-add n k 1, s.paged)

pub shaped_programmed : (n : ℕ) (c : Chip) (p : ℕ) (w : List ℕ) → Shaped n c → Shaped n (programmed c p w)
shaped_programmed n c p w s =
    record { spaced = s.spaced; few = s.few; paged = length-set c.pages p (cleared (page c p) w) ∙ s.paged }

pub shaped_erased : (n : ℕ) (c : Chip) (k : ℕ) → Shaped n c → k < c.blocks → Shaped n (erased c k)
shaped_erased n c k s h =
    record { spaced = s.spaced; few = s.few; paged = erased_long c k (block_within n c k s h) ∙ s.paged }

pub shaped_torn : (n : ℕ) (c f d : Chip) → Shaped n c → Torn c f d → Shaped n d
shaped_torn n c f d s t =
    record {
      spaced = t.spaced ∙ s.spaced;
      few = omega (arith, t.same, s.few);
      paged = t.long ∙ s.paged ∙ ap (λ m. n * m) (sym t.same);
    }

-- another chip in the first or the second place, page by page
module _ (n : ℕ) (a b : Chip) (sa : Shaped n a) (sb : Shaped n b) where
  abbrev m : ℕ
  m = length a.pages

  abbrev total : ℕ
  total = n * joined_blocks a b

  -- the joined chip becomes f where the first becomes x
  pub first_becomes : (x f : Chip) → Shaped n x → x.per_block ≡ a.per_block → x.blocks ≡ a.blocks → length x.pages ≡ length a.pages
      → f.per_block ≡ a.per_block → f.blocks ≡ joined_blocks a b → f.on ≡ (x.on && b.on) → length f.pages ≡ length (joined a b).pages
      → ((q : ℕ) → q < length a.pages → page f q ≡ page x q) → ((q : ℕ) → length a.pages ≤ q → page f q ≡ page (joined a b) q) → joined x b ≡ f
  first_becomes x f sx en em el fn fm fon fl here rest =
      let blocks : joined_blocks x b ≡ joined_blocks a b = ap (λ i. min 1000 (i + b.blocks)) em in
      let long : length (joined x b).pages ≡ total = joined_long n x b sx sb ∙ ap (λ i. n * i) blocks in
      chip_ext (joined x b) f (en ∙ sym fn) (blocks ∙ sym fm) (sym fon) (long ∙ sym (fl ∙ joined_long n a b sa sb))
      (λ q h. elim (dec_lt q m) [
        | yes l ↦ look_first n x b sx sb q (omega (arith, l, el)) ∙ sym (here q l)
        | no ge ↦ (let g : m ≤ q = omega arith in
            let lx : q < n * joined_blocks x b = omega (arith, h, joined_long n x b sx sb) in
            let la : q < total = omega (arith, h, long) in
            look_second n x b sx sb q (omega (arith, g, el)) lx ∙ ap (λ i. page b (q - i)) el
            ∙ sym (rest q g ∙ look_second n a b sa sb q g la))
      ])

  -- the joined chip becomes f where the second becomes y
  pub second_becomes : (y f : Chip) → Shaped n y → y.blocks ≡ b.blocks
      → f.per_block ≡ a.per_block → f.blocks ≡ joined_blocks a b → f.on ≡ (a.on && y.on) → length f.pages ≡ length (joined a b).pages
      → ((q : ℕ) → q < length a.pages → page f q ≡ page (joined a b) q)
      → ((q : ℕ) → length a.pages ≤ q → q < n * joined_blocks a b → page f q ≡ page y (q - length a.pages)) → joined a y ≡ f
  second_becomes y f sy em fn fm fon fl rest here =
      let blocks : joined_blocks a y ≡ joined_blocks a b = ap (λ i. min 1000 (a.blocks + i)) em in
      let long : length (joined a y).pages ≡ total = joined_long n a y sa sy ∙ ap (λ i. n * i) blocks in
      chip_ext (joined a y) f (sym fn) (blocks ∙ sym fm) (sym fon) (long ∙ sym (fl ∙ joined_long n a b sa sb))
      (λ q h. elim (dec_lt q m) [
        | yes l ↦ look_first n a y sa sy q l ∙ sym (rest q l ∙ look_first n a b sa sb q l)
        | no ge ↦ (let g : m ≤ q = omega arith in
            let ly : q < n * joined_blocks a y = omega (arith, h, joined_long n a y sa sy) in
            look_second n a y sa sy q g ly ∙ sym (here q g (omega (arith, h, long))))
      ])

  pub program_first : (p : ℕ) (w : List ℕ) → p < length a.pages → joined (programmed a p w) b ≡ programmed (joined a b) p w
  program_first p w h =
      let pj : p < length (joined a b).pages = omega (arith, joined_long n a b sa sb, first_within n a b sa sb, sa.paged) in
      first_becomes (programmed a p w) (programmed (joined a b) p w) (shaped_programmed n a p w sa) refl refl (length-set a.pages p (cleared (page a p) w))
      refl refl refl (length-set (joined a b).pages p (cleared (page (joined a b) p) w))
      (λ q l. elim (ℕ_discrete q p) [
        | yes e ↦ ap (λ i. page (programmed (joined a b) p w) i) e ∙ programmed_here (joined a b) p w pj ∙ ap (λ o. cleared o w) (look_first n a b sa sb p h)
            ∙ sym (ap (λ i. page (programmed a p w) i) e ∙ programmed_here a p w h)
        | no ne ↦ programmed_else (joined a b) p q w ne ∙ look_first n a b sa sb q l ∙ sym (programmed_else a p q w ne)
      ])
      (λ q g. let ne : q ≢ p = λ e. omega arith in programmed_else (joined a b) p q w ne)

  pub program_second : (p : ℕ) (w : List ℕ) → length a.pages ≤ p → p < n * joined_blocks a b → joined a (programmed b (p - length a.pages) w) ≡ programmed (joined a b) p w
  program_second p w g h =
      let pj : p < length (joined a b).pages = omega (arith, joined_long n a b sa sb) in
      let pb = second_within n a b sa sb p g h in
      second_becomes (programmed b (p - m) w) (programmed (joined a b) p w) (shaped_programmed n b (p - m) w sb) refl
      refl refl refl (length-set (joined a b).pages p (cleared (page (joined a b) p) w))
      (λ q l. let ne : q ≢ p = λ e. omega arith in programmed_else (joined a b) p q w ne)
      (λ q gq hq. elim (ℕ_discrete q p) [
        | yes e ↦ ap (λ i. page (programmed (joined a b) p w) i) e ∙ programmed_here (joined a b) p w pj ∙ ap (λ o. cleared o w) (look_second n a b sa sb p g h)
            ∙ sym (ap (λ i. page (programmed b (p - m) w) (i - m)) e ∙ programmed_here b (p - m) w pb)
        | no ne ↦ (let other : (q - m) ≢ (p - m) = λ e. ne (omega arith) in
            programmed_else (joined a b) p q w ne ∙ look_second n a b sa sb q gq hq ∙ sym (programmed_else b (p - m) (q - m) w other))
      ])

  joined_within : (k : ℕ) → k < joined_blocks a b → a.per_block * k + a.per_block ≤ length (joined a b).pages
  joined_within k h =
      let le : n * (k + 1) ≤ n * joined_blocks a b = mul-le-mul_left n (let l : k + 1 ≤ joined_blocks a b = omega arith in l) in
      let e : a.per_block * k + a.per_block ≡ n * k + n = ap (λ i. i * k + i) sa.spaced in
      omega (arith, e, le, mul-add n k 1, joined_long n a b sa sb)

  pub erase_first : (k : ℕ) → k < a.blocks → joined (erased a k) b ≡ erased (joined a b) k
  erase_first k h =
      let jk : k < joined_blocks a b = omega (arith, sa.few) in
      let wa = block_within n a k sa h in
      let wj = joined_within k jk in
      first_becomes (erased a k) (erased (joined a b) k) (shaped_erased n a k sa h) refl refl (erased_long a k wa) refl refl refl (erased_long (joined a b) k wj)
      (λ q l. elim (dec_lt q (a.per_block * k)) [
        | yes lt ↦ erased_below (joined a b) k wj q lt ∙ look_first n a b sa sb q l ∙ sym (erased_below a k wa q lt)
        | no ge ↦ elim (dec_lt q (a.per_block * k + a.per_block)) [
          | yes lt ↦ erased_inside (joined a b) k wj q (omega arith) lt ∙ sym (erased_inside a k wa q (omega arith) lt)
          | no past ↦ erased_above (joined a b) k wj q (omega arith) ∙ look_first n a b sa sb q l ∙ sym (erased_above a k wa q (omega arith))
        ]
      ])
      (λ q g. erased_above (joined a b) k wj q (omega arith))

  pub erase_second : (k : ℕ) → a.blocks ≤ k → k < joined_blocks a b → joined a (erased b (k - a.blocks)) ≡ erased (joined a b) k
  erase_second k g h =
      let kb : k - a.blocks < b.blocks = omega arith in
      let wb = block_within n b (k - a.blocks) sb kb in
      let wj = joined_within k h in
      let split : n * k ≡ n * a.blocks + n * (k - a.blocks) = ap (λ i. n * i) (let e : k ≡ a.blocks + (k - a.blocks) = omega arith in e) ∙ mul-add n a.blocks (k - a.blocks) in
      let ea : a.per_block * k ≡ n * k = ap (λ i. i * k) sa.spaced in
      let eb : b.per_block * (k - a.blocks) ≡ n * (k - a.blocks) = ap (λ i. i * (k - a.blocks)) sb.spaced in
      second_becomes (erased b (k - a.blocks)) (erased (joined a b) k) (shaped_erased n b (k - a.blocks) sb kb) refl refl refl refl (erased_long (joined a b) k wj)
      (λ q l. erased_below (joined a b) k wj q (omega (arith, split, ea, sa.paged)))
      (λ q gq hq. elim (dec_lt q (a.per_block * k)) [
        | yes lt ↦ erased_below (joined a b) k wj q lt ∙ look_second n a b sa sb q gq hq
            ∙ sym (erased_below b (k - a.blocks) wb (q - m) (omega (arith, split, ea, eb, sa.paged)))
        | no ge ↦ elim (dec_lt q (a.per_block * k + a.per_block)) [
          | yes lt ↦ erased_inside (joined a b) k wj q (omega arith) lt
              ∙ sym (erased_inside b (k - a.blocks) wb (q - m) (omega (arith, split, ea, eb, sa.paged)) (omega (arith, split, ea, eb, sa.paged, sa.spaced, sb.spaced)))
          | no past ↦ erased_above (joined a b) k wj q (omega arith) ∙ look_second n a b sa sb q gq hq
              ∙ sym (erased_above b (k - a.blocks) wb (q - m) (omega (arith, split, ea, eb, sa.paged, sa.spaced, sb.spaced)))
        ]
      ])

  pub torn_first : (f d : Chip) → Shaped n f → f.blocks ≡ a.blocks → length f.pages ≡ length a.pages → Torn a f d → Torn (joined a b) (joined f b) (joined d b)
  torn_first f d sf fm fl t =
      let sd = shaped_torn n a f d sa t in
      let bd : joined_blocks d b ≡ joined_blocks a b = ap (λ i. min 1000 (i + b.blocks)) t.same in
      let bf : joined_blocks f b ≡ joined_blocks a b = ap (λ i. min 1000 (i + b.blocks)) fm in
      record {
        spaced = t.spaced;
        same = bd;
        long = joined_long n d b sd sb ∙ ap (λ i. n * i) bd ∙ sym (joined_long n a b sa sb);
        mixed = λ q. elim (dec_lt q m) [
          | yes l ↦ (let ea = look_first n a b sa sb q l in
              let ef = look_first n f b sf sb q (omega (arith, l, fl)) in
              let ed = look_first n d b sd sb q (omega (arith, l, t.long)) in
              subst (λ x. Mixed x (page (joined f b) q) (page (joined d b) q)) (sym ea) (subst (λ x. Mixed (page a q) x (page (joined d b) q)) (sym ef) (subst (λ x. Mixed (page a q) (page f q) x) (sym ed) (t.mixed q))))
          | no ge ↦ mixed_same (page (joined a b) q) (page (joined f b) q) (page (joined d b) q) (elim (dec_lt q total) [
            | yes h ↦ look_second n d b sd sb q (omega (arith, t.long)) (omega (arith, h, ap (λ i. n * i) bd)) ∙ ap (λ i. page b (q - i)) t.long
                ∙ sym (look_second n a b sa sb q (omega arith) h)
            | no past ↦ look_past n d b sd sb q (omega (arith, ap (λ i. n * i) bd)) ∙ sym (look_past n a b sa sb q (omega arith))
          ])
        ];
        off = ap (λ o. o && b.on) t.off;
      }

  pub torn_second : (f d : Chip) → Shaped n f → f.blocks ≡ b.blocks → Torn b f d → Torn (joined a b) (joined a f) (joined a d)
  torn_second f d sf fm t =
      let sd = shaped_torn n b f d sb t in
      let bd : joined_blocks a d ≡ joined_blocks a b = ap (λ i. min 1000 (a.blocks + i)) t.same in
      let bf : joined_blocks a f ≡ joined_blocks a b = ap (λ i. min 1000 (a.blocks + i)) fm in
      record {
        spaced = refl;
        same = bd;
        long = joined_long n a d sa sd ∙ ap (λ i. n * i) bd ∙ sym (joined_long n a b sa sb);
        mixed = λ q. elim (dec_lt q m) [
          | yes l ↦ mixed_same (page (joined a b) q) (page (joined a f) q) (page (joined a d) q) (look_first n a d sa sd q l ∙ sym (look_first n a b sa sb q l))
          | no ge ↦ elim (dec_lt q total) [
            | yes h ↦ (let g : m ≤ q = omega arith in
                let eb = look_second n a b sa sb q g h in
                let ef = look_second n a f sa sf q g (omega (arith, h, ap (λ i. n * i) bf)) in
                let ed = look_second n a d sa sd q g (omega (arith, h, ap (λ i. n * i) bd)) in
                subst (λ x. Mixed x (page (joined a f) q) (page (joined a d) q)) (sym eb) (subst (λ x. Mixed (page b (q - m)) x (page (joined a d) q)) (sym ef) (subst (λ x. Mixed (page b (q - m)) (page f (q - m)) x) (sym ed) (t.mixed (q - m)))))
            | no past ↦ mixed_same (page (joined a b) q) (page (joined a f) q) (page (joined a d) q)
                (look_past n a d sa sd q (omega (arith, ap (λ i. n * i) bd)) ∙ sym (look_past n a b sa sb q (omega arith)))
          ]
        ];
        off = and_right a.on d.on t.off;
      }

-- the answers of one flash, as the joined flash gives them
module _ (n : ℕ) (a b : Chip) (sa : Shaped n a) (sb : Shaped n b) (aon : a.on ≡ true) (bon : b.on ≡ true) where
  on : (joined a b).on ≡ true
  on = and_from a.on b.on aon bon

  never : {X : Type 0} (c : Chip) → c.on ≡ true → c.on ≡ false → X
  never c p q = absurd (both_ways c.on q p)

  in_joined : (p : ℕ) → p < length a.pages → p < length (joined a b).pages
  in_joined p h = omega (arith, joined_long n a b sa sb, first_within n a b sa sb, sa.paged)

  pub reads_first : (p : ℕ) (x y : List ℕ) (r : Answer) → p < length a.pages → Reads a p x r y → Reads (joined a b) p x r y
  reads_first p x y (Ok u) h s = (on, in_joined p h, s.2 ∙ ap (filled x) (sym (look_first n a b sa sb p h)))
  reads_first p x y (Err Off) h s = never a aon s.0
  reads_first p x y (Err Range) h s = absurd (omega arith)
  reads_first p x y (Err (Program q)) h s = s
  reads_first p x y (Err (Erase q)) h s = s

  pub reads_second : (p : ℕ) (x y : List ℕ) (r : Answer) → length a.pages ≤ p → p < n * joined_blocks a b → Reads b (p - length a.pages) x r y → Reads (joined a b) p x r y
  reads_second p x y (Ok u) g h s = (on, omega (arith, joined_long n a b sa sb), s.2 ∙ ap (filled x) (sym (look_second n a b sa sb p g h)))
  reads_second p x y (Err Off) g h s = never b bon s.0
  reads_second p x y (Err Range) g h s = absurd (omega (arith, s.1, second_within n a b sa sb p g h))
  reads_second p x y (Err (Program q)) g h s = s
  reads_second p x y (Err (Erase q)) g h s = s

  pub programs_first : (p : ℕ) (w : List ℕ) (d : Chip) (r : Answer) → p < length a.pages → Programs a p w r d → Programs (joined a b) p w r (joined d b)
  programs_first p w d (Ok u) h s = (on, in_joined p h, ap (λ c. joined c b) s.2 ∙ program_first n a b sa sb p w h)
  programs_first p w d (Err Off) h s = never a aon s.0
  programs_first p w d (Err Range) h s = absurd (omega arith)
  programs_first p w d (Err (Program q)) h s = (
    on,
    in_joined p h,
    s.2,
    subst (λ f. Torn (joined a b) f (joined d b)) (program_first n a b sa sb p w h)
        (torn_first n a b sa sb (programmed a p w) d (shaped_programmed n a p w sa) refl (length-set a.pages p (cleared (page a p) w)) s.3),
  )
  programs_first p w d (Err (Erase k)) h s = s

  pub programs_second : (p : ℕ) (w : List ℕ) (d : Chip) (r : Answer) → length a.pages ≤ p → p < n * joined_blocks a b → Programs b (p - length a.pages) w r d
      → Programs (joined a b) p w (retold p r) (joined a d)
  programs_second p w d (Ok u) g h s = (on, omega (arith, joined_long n a b sa sb), ap (λ c. joined a c) s.2 ∙ program_second n a b sa sb p w g h)
  programs_second p w d (Err Off) g h s = never b bon s.0
  programs_second p w d (Err Range) g h s = absurd (omega (arith, s.1, second_within n a b sa sb p g h))
  programs_second p w d (Err (Program q)) g h s = (
    on,
    omega (arith, joined_long n a b sa sb),
    refl,
    subst (λ f. Torn (joined a b) f (joined a d)) (program_second n a b sa sb p w g h)
        (torn_second n a b sa sb (programmed b (p - length a.pages) w) d (shaped_programmed n b (p - length a.pages) w sb) refl s.3),
  )
  programs_second p w d (Err (Erase k)) g h s = s

  pub erases_first : (k : ℕ) (d : Chip) (r : Answer) → k < a.blocks → Erases a k r d → Erases (joined a b) k r (joined d b)
  erases_first k d (Ok u) h s = (on, omega (arith, sa.few), ap (λ c. joined c b) s.2 ∙ erase_first n a b sa sb k h)
  erases_first k d (Err Off) h s = never a aon s.0
  erases_first k d (Err Range) h s = absurd (omega arith)
  erases_first k d (Err (Program q)) h s = s
  erases_first k d (Err (Erase q)) h s = (
    on,
    omega (arith, sa.few),
    s.2,
    subst (λ f. Torn (joined a b) f (joined d b)) (erase_first n a b sa sb k h)
        (torn_first n a b sa sb (erased a k) d (shaped_erased n a k sa h) refl (erased_long a k (block_within n a k sa h)) s.3),
  )

  pub erases_second : (k : ℕ) (d : Chip) (r : Answer) → a.blocks ≤ k → k < joined_blocks a b → Erases b (k - a.blocks) r d → Erases (joined a b) k (retold k r) (joined a d)
  erases_second k d (Ok u) g h s = (on, h, ap (λ c. joined a c) s.2 ∙ erase_second n a b sa sb k g h)
  erases_second k d (Err Off) g h s = never b bon s.0
  erases_second k d (Err Range) g h s = absurd (omega (arith, s.1))
  erases_second k d (Err (Program q)) g h s = s
  erases_second k d (Err (Erase q)) g h s = (
    on,
    h,
    refl,
    subst (λ f. Torn (joined a b) f (joined a d)) (erase_second n a b sa sb k g h)
        (torn_second n a b sa sb (erased b (k - a.blocks)) d (shaped_erased n b (k - a.blocks) sb (let l : k - a.blocks < b.blocks = omega arith in l)) refl s.3),
  )
