-- Two chips end to end keep what every chip keeps: the proof that the joined flash holds.
use Rattle.std.specs.Prelude.{◌≡◌, ℕ, ◌+◌, ◌-◌, ◌*◌, ◌<◌, ◌≤◌, [], ◌++◌, length, take, slice_index, slice_index_or, refl}
use Rattle.std.proofs.Common.{ap, subst, ◌∙◌, mul-le-mul_left, mul-add, arith, length-append}
use Rattle.std.proofs.Math.Decide.{dec_lt}
use Rattle.std.proofs.lemmas.List.{get_or_append_left, get_or-append_right, get_or-take, get_or_past, length-take-le}
use Rattle.flash.specs.Chip.{Chip, Formed, page}
use Rattle.flash.specs.Joined.{joined, joined_blocks}

-- the shape of a chip with n pages to a block
pub record Shaped (n : ℕ) (c : Chip) : Type 0 where
  pub spaced : c.per_block ≡ n
  pub few : c.blocks ≤ 1000
  pub paged : length c.pages ≡ n * c.blocks

pub shaped : (n : ℕ) (c : Chip) → Formed n c → Shaped n c
shaped n c f = record { spaced = f.spaced; few = f.few; paged = f.paged }

module _ (n : ℕ) (a b : Chip) (sa : Shaped n a) (sb : Shaped n b) where
  -- the cut leaves all of the first chip
  pub first_within : n * a.blocks ≤ n * joined_blocks a b
  first_within = mul-le-mul_left n (let few = sa.few in let h : a.blocks ≤ joined_blocks a b = omega arith in h)

  pub both_long : n * joined_blocks a b ≤ length (a.pages ++ b.pages)
  both_long =
      let le : n * joined_blocks a b ≤ n * (a.blocks + b.blocks) = mul-le-mul_left n (let h : joined_blocks a b ≤ a.blocks + b.blocks = omega arith in h) in
      omega (arith, le, mul-add n a.blocks b.blocks, length-append a.pages b.pages, sa.paged, sb.paged)

  pages_are : (joined a b).pages ≡ take (n * joined_blocks a b) (a.pages ++ b.pages)
  pages_are = ap (λ m. take (m * joined_blocks a b) (a.pages ++ b.pages)) sa.spaced

  pub joined_long : length (joined a b).pages ≡ n * joined_blocks a b
  joined_long = ap length pages_are ∙ length-take-le (n * joined_blocks a b) (a.pages ++ b.pages) both_long

  pub look_first : (q : ℕ) → q < length a.pages → page (joined a b) q ≡ page a q
  look_first q h =
      let l : q < n * joined_blocks a b = omega (arith, sa.paged, first_within) in
      ap (λ ps. slice_index_or ps q []) pages_are ∙ get_or-take (n * joined_blocks a b) (a.pages ++ b.pages) q [] l ∙ get_or_append_left a.pages b.pages [] q h

  pub look_second : (q : ℕ) → length a.pages ≤ q → q < n * joined_blocks a b → page (joined a b) q ≡ page b (q - length a.pages)
  look_second q g h =
      ap (λ ps. slice_index_or ps q []) pages_are ∙ get_or-take (n * joined_blocks a b) (a.pages ++ b.pages) q [] h
      ∙ get_or-append_right a.pages b.pages (length a.pages) q [] refl g

  pub look_past : (q : ℕ) → n * joined_blocks a b ≤ q → page (joined a b) q ≡ []
  look_past q g = get_or_past (joined a b).pages q [] (omega (arith, joined_long))

  -- where the second chip's page lies in it
  pub second_within : (q : ℕ) → length a.pages ≤ q → q < n * joined_blocks a b → q - length a.pages < length b.pages
  second_within q g h = omega (arith, both_long, length-append a.pages b.pages)

pub joined_formed : (n m : ℕ) (a b : Chip) → m ≡ n → Formed n a → Formed m b → Formed n (joined a b)
joined_formed n m a b e fa f =
    let fb : Formed n b = subst (λ i. Formed i b) e f in
    let sa = shaped n a fa in
    let sb = shaped n b fb in
    record {
      spaced = fa.spaced;
      few = omega arith;
      paged = joined_long n a b sa sb;
      wide = λ q h. let l : q < n * joined_blocks a b = omega (arith, h, joined_long n a b sa sb) in
          elim (dec_lt q (length a.pages)) [
            | yes lt ↦ ap length (look_first n a b sa sb q lt) ∙ fa.wide q lt
            | no ge ↦ (let g : length a.pages ≤ q = omega arith in ap length (look_second n a b sa sb q g l) ∙ fb.wide (q - length a.pages) (second_within n a b sa sb q g l))
          ];
      bytes = λ q k.
          elim (dec_lt q (length a.pages)) [
            | yes lt ↦ (let s = fa.bytes q k in omega (arith, ap (λ ys. slice_index ys k) (look_first n a b sa sb q lt), s))
            | no ge ↦ (let g : length a.pages ≤ q = omega arith in elim (dec_lt q (n * joined_blocks a b)) [
              | yes l ↦ (let s = fb.bytes (q - length a.pages) k in omega (arith, ap (λ ys. slice_index ys k) (look_second n a b sa sb q g l), s))
              | no past ↦ omega (arith, ap (λ ys. slice_index ys k) (look_past n a b sa sb q (omega arith)))
            ])
          ];
    }
