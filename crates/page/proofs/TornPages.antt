-- A mixture of old and final bits, where the old or the final ones are all 1, is a page whose bits rose.
use Rattle.std.proofs.Common.{◌≡◌, ℕ, zero, suc, ◌+◌, ◌-◌, ◌*◌, ◌%◌, ◌^◌, ◌<◌, ◌⊎◌, true, List, [], ◌∷◌, length, get_or, sym, refl, ap, ◌∙◌, subst, inl, inr, arith}
use native.Mathlib.Decide.{dec_lt}
use lib.Bits.{bit_and, bit_xor, differ, and_self, and_comm}
use Rattle.std.specs.Int.{bit_at}
use Rattle.std.proofs.lemmas.Nat.{and_le_l, and_mask}
use Rattle.std.proofs.lemmas.Nat.Bits.{bit_at-lt, bit_at-zero, bit_at_and, bit_at_ones, bit_at_xor, same_from_bits, same_from_bits_below}
use Rattle.std.proofs.lemmas.List.{ext_get_or, get_or-replicate, length-replicate}
use Rattle.flash.specs.Chip.{Chip, Formed, InBlock, Mixed, Torn, blank, page, cleared, programmed, erased}
use Rattle.flash.proofs.Chips.{programmed_here, programmed_else}
use Rattle.flash.proofs.Clearing.{cleared_at}
use Rattle.flash.proofs.Erasing.{erased_below, erased_inside, erased_above}
use Rattle.flash.proofs.Sides.{block_within}
use Rattle.flash.specs.Joins.{shaped}
use Rattle.page.specs.Code.{is_data, Raised, Settled}
use Rattle.page.specs.Tearing.{TornProgramAddsNone, TornEraseAddsNone}
use Rattle.page.proofs.Rising.{rising_spoils}

-- bits of 0 and 1 that differ
pub differ_bit : (a b : ℕ) → a < 2 → b < 2 → ((a ≡ b) × (differ a b ≡ 0)) ⊎ ((a + b ≡ 1) × (differ a b ≡ 1))
differ_bit zero zero h l = inl (refl, refl)
differ_bit zero (suc zero) h l = inr (refl, refl)
differ_bit (suc zero) zero h l = inr (refl, refl)
differ_bit (suc zero) (suc zero) h l = inl (refl, refl)
differ_bit (suc (suc a)) b h l = absurd (omega arith)
differ_bit zero (suc (suc b)) h l = absurd (omega arith)
differ_bit (suc zero) (suc (suc b)) h l = absurd (omega arith)

-- no difference, no change
pub xor_none : (a b : ℕ) → bit_xor a b ≡ 0 → a ≡ b
xor_none a b e =
    same_from_bits a b (λ i.
    let none : bit_at (bit_xor a b) i ≡ 0 = ap (λ n. bit_at n i) e ∙ bit_at-zero i in
    omega (arith, bit_at_xor a b i, bit_at-lt a i, bit_at-lt b i))

-- each bit of s is that of x, or 1
pub mixed_rose : (k s x : ℕ) → x < 2 ^ k → bit_and (bit_xor s x) (bit_xor s (2 ^ k - 1)) ≡ 0 → bit_and x s ≡ x
mixed_rose k s x lx e =
    same_from_bits_below k (bit_and x s) x (omega (arith, and_le_l x s)) lx (λ i h.
    let ones = 2 ^ k - 1 in
    let none : bit_at (bit_and (bit_xor s x) (bit_xor s ones)) i ≡ 0 = ap (λ n. bit_at n i) e ∙ bit_at-zero i in
    let both = bit_at_and (bit_xor s x) (bit_xor s ones) i in
    let kept = bit_at_and x s i in
    let one = bit_at_ones k i h in
    omega (arith, bit_at_xor s x i, bit_at_xor s ones i, bit_at-lt s i, bit_at-lt x i))

-- bytes whose bits are those of xs or 1 are xs risen
raised : (xs ys : List ℕ) → length ys ≡ length xs → ((k : ℕ) → get_or xs k 0 < 256) → ((k : ℕ) → get_or ys k 0 < 256)
    → ((k : ℕ) → k < length xs → bit_and (bit_xor (get_or ys k 0) (get_or xs k 0)) (bit_xor (get_or ys k 0) 255) ≡ 0) → Raised xs ys
raised [] [] l bx by m = tt
raised [] (y ∷ ys) l bx by m = absurd (omega arith)
raised (x ∷ xs) [] l bx by m = absurd (omega arith)
raised (x ∷ xs) (y ∷ ys) l bx by m = (
  record { from_byte = bx 0; to_byte = by 0; kept = mixed_rose 8 y x (bx 0) (m 0 (omega arith)) },
  raised xs ys (omega arith) (λ k. bx (suc k)) (λ k. by (suc k)) (λ k h. m (suc k) (omega arith)),
)

-- a page on the way from itself to itself is itself
unmixed : (x s : List ℕ) → ((k : ℕ) → get_or x k 0 < 256) → ((k : ℕ) → get_or s k 0 < 256) → Mixed x x s → s ≡ x
unmixed x s bx bs m =
    ext_get_or 0 s x m.0 (λ k _. xor_none (get_or s k 0) (get_or x k 0) (sym (and_self (bit_xor (get_or s k 0) (get_or x k 0))) ∙ m.1 k))

-- each page that the final chip has as the old one is as it was
untouched : (n : ℕ) (c f d : Chip) (q : ℕ) → Formed n c → Formed n d → Torn c f d → page f q ≡ page c q → page d q ≡ page c q
untouched n c f d q fc fd t same = unmixed (page c q) (page d q) (fc.bytes q) (fd.bytes q) (subst (λ y. Mixed (page c q) y (page d q)) same (t.mixed q))

-- a blank page cleared by bytes is those bytes
blank_cleared : (w : List ℕ) (k : ℕ) → length w ≡ 256 → ((j : ℕ) → get_or w j 0 < 256) → k < 256 → get_or (cleared blank w) k 0 ≡ get_or w k 0
unfolding blank
blank_cleared w k l bw h =
    let small : get_or w k 0 < 256 = bw k in
    let long : length blank ≡ 256 = length-replicate {A = ℕ} 256 255 in
    cleared_at blank w k (omega (arith, long)) (omega arith) ∙ ap (λ i. bit_and i (get_or w k 0)) (get_or-replicate 256 k 255 0 h)
    ∙ and_comm 255 (get_or w k 0) ∙ and_mask (get_or w k 0) 8 ∙ (let z : get_or w k 0 % 256 ≡ get_or w k 0 = omega arith in z)

pub torn_program : TornProgramAddsNone
unfolding blank
torn_program n c d p w fc fd h empty long bw settled t =
    let wide_d : length (page d p) ≡ 256 = fd.wide p (omega (arith, t.long)) in
    let final : page (programmed c p w) p ≡ cleared blank w = programmed_here c p w h ∙ ap (λ o. cleared o w) empty in
    let mix : Mixed blank (cleared blank w) (page d p) =
    subst (λ o. Mixed o (cleared blank w) (page d p)) empty (subst (λ f. Mixed (page c p) f (page d p)) final (t.mixed p)) in
    let rose : Raised w (page d p) = raised w (page d p) (wide_d ∙ sym long) bw (fd.bytes p)
    (λ k l. let k256 : k < 256 = omega arith in
    and_comm (bit_xor (get_or (page d p) k 0) (get_or w k 0)) (bit_xor (get_or (page d p) k 0) 255)
    ∙ ap (λ i. bit_and (bit_xor (get_or (page d p) k 0) i) (bit_xor (get_or (page d p) k 0) (get_or w k 0))) (sym (get_or-replicate 256 k 255 0 k256))
    ∙ ap (λ i. bit_and (bit_xor (get_or (page d p) k 0) (get_or blank k 0)) (bit_xor (get_or (page d p) k 0) i)) (sym (blank_cleared w k long bw k256))
    ∙ mix.1 k) in
    let law = rising_spoils w (page d p) long rose settled in
    record { settled = law.0; whole = law.1; others = λ q ne. untouched n c (programmed c p w) d q fc fd t (programmed_else c p q w ne) }

pub torn_erase : TornEraseAddsNone
unfolding blank
torn_erase n c d b fc fd h settled t =
    let within = block_within n c b (shaped n c fc) h in
    let law : (q : ℕ) → InBlock c b q → Settled (page d q) × (is_data (page d q) ≡ true → page d q ≡ page c q) =
    λ q inside.
    let here : q < length c.pages = omega (arith, within, inside.1) in
    let wide_c : length (page c q) ≡ 256 = fc.wide q here in
    let wide_d : length (page d q) ≡ 256 = fd.wide q (omega (arith, t.long)) in
    let mix = subst (λ f. Mixed (page c q) f (page d q)) (erased_inside c b within q inside.0 inside.1) (t.mixed q) in
    let rose : Raised (page c q) (page d q) = raised (page c q) (page d q) (wide_d ∙ sym wide_c) (fc.bytes q) (fd.bytes q)
    (λ k l. ap (λ i. bit_and (bit_xor (get_or (page d q) k 0) (get_or (page c q) k 0)) (bit_xor (get_or (page d q) k 0) i)) (sym (get_or-replicate 256 k 255 0 (let m : k < 256 = omega arith in m))) ∙ mix.1 k) in
    rising_spoils (page c q) (page d q) wide_c rose (settled q inside) in
    record {
      settled = λ q inside. (law q inside).0;
      whole = λ q inside. (law q inside).1;
      others = λ q outside. untouched n c (erased c b) d q fc fd t (elim (dec_lt q (c.per_block * b)) [
        | yes below ↦ erased_below c b within q below
        | no ge ↦ elim (dec_lt q (c.per_block * b + c.per_block)) [
          | yes lt ↦ absurd (outside (omega arith, lt))
          | no past ↦ erased_above c b within q (omega arith)
        ]
      ]);
    }
