-- The bits of an encoded page that belong to no field are ones.
use Rattle.std.proofs.Common.{◌≡◌, ℕ, ◌+◌, ◌-◌, ◌*◌, ◌/◌, ◌%◌, ◌^◌, ◌<◌, ◌≤◌, true, false, ◌⊎◌, ◌++◌, length, get_or, replicate, sum_by, refl, ap, ◌∙◌, inl, inr, arith}
use Rattle.std.specs.Int.{bit_at}
use Rattle.std.proofs.lemmas.List.{get_or-append_right, get_or-replicate}
use Rattle.std.proofs.lemmas.Nat.Bits.{bit_at_cat_low, bit_at_ones}
use Rattle.std.proofs.lemmas.Bool.{and_parts, and_cases, or_parts, cases_lt, leb-false, ltb-false}
use Rattle.page.specs.declared.fields.Header.{Header}
use Rattle.page.specs.declared.fields.Entry.{Entry}
use Rattle.page.specs.declared.fields.Content.{Content}
use Rattle.page.specs.declared.fields.Content.TheVariants.{Note, Gone}
use Rattle.page.specs.declared.fields.Content.TheVariants as content
use Rattle.page.specs.declared.fields.Page.{Page}
use Rattle.page.specs.Bits.{bit}
use Rattle.page.specs.Code.{zeros_of}
use Rattle.page.specs.Encoded.{be16, packed, written, body, encoded, directory_bit}
use Rattle.page.specs.Pasted.{Sized}
use Rattle.page.specs.Fits.{fits, file_fits, content_fits, entry_fits}
use Rattle.page.specs.Holds.{within, own_bits, listed}
use Rattle.page.specs.Names.{name_text}
use Rattle.page.proofs.BitLaws.{bit_in}
use Rattle.page.proofs.Packing.{unpacked}
use Rattle.page.proofs.Ranges.{entry_ranges, directory_bit_range}
use Rattle.page.proofs.Reading.{name_long}

outside : (from to k : ℕ) → within from to k ≡ false → (k < from) ⊎ (to ≤ k)
outside from to k t = elim (and_cases _ _ t) [ inl e ↦ inl (leb-false _ _ e) | inr e ↦ inr (ltb-false _ _ e) ]

-- the last bits of a byte that ends in five ones
low_ones : (e b : ℕ) → e < 5 → b % 32 ≡ 31 → bit_at b e ≡ 1
low_ones e b l h =
    let split : b ≡ b / 32 * 2 ^ 5 + 31 = omega arith in
    ap (λ n. bit_at n e) split ∙ bit_at_cat_low (b / 32) 5 31 e l ∙ bit_at_ones 5 e l

-- past the fields every byte is 255
past : (page : Page) (j : ℕ) → 2 + length (written page) ≤ j → j < 256 → get_or (encoded page) j 0 ≡ 255
unfolding encoded body
past page j l u =
    let w = written page in
    let front = be16 (sum_by zeros_of (body page)) ++ w in
    let n = 254 - length w in
    let at = get_or-append_right front (replicate n 255) (2 + length w) j 0 (omega arith) l in
    at ∙ get_or-replicate n (j - (2 + length w)) 255 0 (omega arith)

past_bit : (page : Page) (k : ℕ) → 8 * (2 + length (written page)) ≤ k → k < 2048 → bit (encoded page) k ≡ 1
unfolding bit
past_bit page k l u =
    let e : get_or (encoded page) (k / 8) 0 ≡ 255 = past page (k / 8) (omega arith) (omega arith) in
    ap (λ b. b / 2 ^ (7 - k % 8) % 2) e ∙ bit_at_ones 8 (7 - k % 8) (omega arith)

-- the last bit of byte 2
lead_bit : (page : Page) → bit (encoded page) 23 ≡ 1
unfolding bit encoded body
lead_bit page = omega arith

-- no bit below 120 is free, but for one
below : (page : Page) (k : ℕ) → within 0 23 k ≡ false → within 24 120 k ≡ false → k < 120 → bit (encoded page) k ≡ 1
below page k a b l =
    elim (outside 0 23 k a) [
      | inl n ↦ absurd (omega arith)
      | inr up ↦
          elim (outside 24 120 k b) [
            | inl n ↦ let e : k ≡ 23 = omega arith in ap (bit (encoded page)) e ∙ lead_bit page
            | inr n ↦ absurd (omega arith)
          ]
    ]

-- the last five bits of byte 21 of an entry
entry_bit : (h : Header) (e : Entry) (k : ℕ) → entry_fits e ≡ true → 171 ≤ k → k < 176 → bit (encoded (record { header = h; content = content.Entry e })) k ≡ 1
unfolding encoded body
entry_bit h e k t l u =
    let q = encoded (record { header = h; content = content.Entry e }) in
    let r = entry_ranges e t in
    let short : e.length < 8192 = omega (arith, r.short) in
    let few : e.name.len < 32 = omega (arith, r.named.short) in
    let p = unpacked (directory_bit e.kind) e.length e.name.len (packed e) (directory_bit_range e.kind) short few refl in
    let j = k - 168 in
    let at : k ≡ 8 * 21 + j = omega arith in
    let small : j < 8 = omega arith in
    let low : 7 - j < 5 = omega arith in
    let byte : bit q (8 * 21 + j) ≡ packed e % 256 / 2 ^ (7 - j) % 2 = bit_in q 21 j small in
    ap (bit q) at ∙ byte ∙ low_ones (7 - j) (packed e % 256) low p.free

-- a bit past the header, by what stands there
above : (h : Header) (c : Content) (k : ℕ) → content_fits h c ≡ true → Sized c → own_bits c k ≡ false → 120 ≤ k → k < 2048 → bit (encoded (record { header = h; content = c })) k ≡ 1
above h Note k t s o l u = past_bit (record { header = h; content = Note }) k l u
above h (content.Entry e) k t s o l u =
    let page : Page = record { header = h; content = content.Entry e } in
    let good : entry_fits e ≡ true = (and_parts (file_fits h) (entry_fits e) t).1 in
    let long : length (name_text e.name) ≡ e.name.len = name_long e.name (entry_ranges e good).named in
    let parts = or_parts (within 120 171 k) (within 176 (176 + 8 * e.name.len) k) o in
    elim (outside 120 171 k parts.0) [
      | inl n ↦ absurd (omega arith)
      | inr m ↦
          elim (outside 176 (176 + 8 * e.name.len) k parts.1) [
            | inl n ↦ entry_bit h e k good m n
            | inr n ↦ past_bit page k (omega arith) u
          ]
    ]
above h (content.Chunk c) k t s o l u =
    let page : Page = record { header = h; content = content.Chunk c } in
    let long : length c.bytes ≡ 224 = s in
    elim (outside 120 1920 k o) [ inl n ↦ absurd (omega arith) | inr n ↦ past_bit page k (omega arith) u ]
above h Gone k t s o l u = past_bit (record { header = h; content = Gone }) k l u

pub unlisted_ones : (page : Page) → fits page ≡ true → Sized page.content → (k : ℕ) → k < 2048 → listed page.content k ≡ false → bit (encoded page) k ≡ 1
unfolding fits
unlisted_ones page t s k u f =
    let parts = or_parts _ _ f in
    let first = or_parts _ _ parts.0 in
    elim (cases_lt k 120) [
      | inl l ↦ below page k first.0 first.1 l
      | inr l ↦ above page.header page.content k (and_parts _ _ t).1 s parts.1 l u
    ]
