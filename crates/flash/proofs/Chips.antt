-- Chips page by page: when two are one, and what a program leaves of each page.
use Rattle.std.proofs.Common.{◌≡◌, ℕ, ◌<◌, Bool, ◌≢◌, ◌⊎◌, List, [], length, get_or, ap, ◌∙◌, inl, inr}
use lib.Bits.{bit_and, bit_xor, xor_self, and_zero_l, and_zero_r}
use Rattle.std.proofs.lemmas.List.{get_or-set_other, get_or-set_same, ext_get_or}
use Rattle.flash.specs.Chip.{Chip, Mixed, page, cleared, programmed}

pub mixed_byte : (s o f : ℕ) → (s ≡ o) ⊎ (s ≡ f) → bit_and (bit_xor s o) (bit_xor s f) ≡ 0
mixed_byte s o f (inl e) = ap (λ x. bit_and x (bit_xor s f)) (ap (λ x. bit_xor x o) e ∙ xor_self o) ∙ and_zero_l (bit_xor s f)
mixed_byte s o f (inr e) = ap (bit_and (bit_xor s o)) (ap (λ x. bit_xor x f) e ∙ xor_self f) ∙ and_zero_r (bit_xor s o)

-- a page that stays is a mixture of itself
pub mixed_same : (x f s : List ℕ) → s ≡ x → Mixed x f s
mixed_same x f s e = (ap length e, λ k. mixed_byte (get_or s k 0) (get_or x k 0) (get_or f k 0) (inl (ap (λ ys. get_or ys k 0) e)))

abbrev chip_of : ℕ → ℕ → List (List ℕ) → Bool → Chip
chip_of n m ps on = record { per_block = n; blocks = m; pages = ps; on = on }

pub chip_ext : (c d : Chip) → c.per_block ≡ d.per_block → c.blocks ≡ d.blocks → c.on ≡ d.on → length c.pages ≡ length d.pages
    → ((q : ℕ) → q < length c.pages → page c q ≡ page d q) → c ≡ d
chip_ext c d en em eon long same =
    ap (λ n. chip_of n c.blocks c.pages c.on) en ∙ ap (λ m. chip_of d.per_block m c.pages c.on) em
    ∙ ap (λ on. chip_of d.per_block d.blocks c.pages on) eon
    ∙ ap (λ ps. chip_of d.per_block d.blocks ps d.on) (ext_get_or [] c.pages d.pages long same)

pub programmed_here : (c : Chip) (p : ℕ) (w : List ℕ) → p < length c.pages → page (programmed c p w) p ≡ cleared (page c p) w
programmed_here c p w h = get_or-set_same c.pages p (cleared (page c p) w) [] h

pub programmed_else : (c : Chip) (p q : ℕ) (w : List ℕ) → q ≢ p → page (programmed c p w) q ≡ page c q
programmed_else c p q w ne = get_or-set_other c.pages p q (cleared (page c p) w) [] ne
