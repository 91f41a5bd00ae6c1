-- A page that fits is read back from the bytes that it is encoded in.
use Rattle.std.proofs.Common.{◌≡◌, ℕ, ◌+◌, ◌-◌, ◌*◌, ◌/◌, ◌%◌, ◌<◌, ◌≤◌, true, List, [], ◌∷◌, length, replicate, Some, Ok, Err, sum_by, Option, refl, ap, ◌∙◌, ap₂, arith, length-append}
use lib.Count.{ones-le}
use lib.ListN.{length-replicate}
use Rattle.std.proofs.lemmas.List.Sums.{sum_by-cons}
use Rattle.std.proofs.lemmas.Bool.{and_parts, leb-true, ltb-true, eqb-true, eq-eqb, cond-true}
use Rattle.page.specs.declared.fields.Header.{Header}
use Rattle.page.specs.declared.fields.Content.{Content}
use Rattle.page.specs.declared.fields.Content.TheVariants.{Note, Gone}
use Rattle.page.specs.declared.fields.Content.TheVariants as content
use Rattle.page.specs.declared.fields.Page.{Page}
use Rattle.page.specs.declared.fields.PageFault.TheVariants.{NotData, OutOfRange}
use Rattle.page.specs.Bits.{field}
use Rattle.page.specs.Code.{zeros_of, is_data}
use Rattle.page.specs.Decoded.{decoded, assembled}
use Rattle.page.specs.Encoded.{header_bytes, content_bytes, kind_number, written, body, encoded}
use Rattle.page.specs.Pasted.{Sized}
use Rattle.page.specs.Fields.{header_at, content_at, content_of_kind}
use Rattle.page.specs.Fits.{fits, header_fits, file_fits, content_fits, entry_fits}
use Rattle.page.specs.Names.{name_text}
use Rattle.page.proofs.Ranges.{header_ranges, entry_ranges}
use Rattle.page.proofs.Reading.{kind_read, header_read, entry_read, chunk_read, name_long}

-- no byte has more than eight zeros
few_zeros : (xs : List ℕ) → sum_by zeros_of xs ≤ length xs * 8
few_zeros [] = omega arith
few_zeros (x ∷ xs) =
    let one : zeros_of x ≤ 8 = ones-le 8 (255 - x) (omega arith) in
    omega (arith, few_zeros xs, sum_by-cons zeros_of x xs)

-- the header has 13 bytes
written_long : (page : Page) → length (written page) ≡ 13 + length (content_bytes page.content)
written_long page = length-append (header_bytes (kind_number page.content) page.header) (content_bytes page.content)

-- what stands after it has at most 225
content_long : (h : Header) (c : Content) → content_fits h c ≡ true → Sized c → length (content_bytes c) ≤ 225
content_long h Note t s = omega arith
content_long h (content.Entry e) t s =
    let good : entry_fits e ≡ true = (and_parts (file_fits h) (entry_fits e) t).1 in
    let n : length (name_text e.name) ≡ e.name.len = name_long e.name (entry_ranges e good).named in
    omega (arith, (entry_ranges e good).named.short)
content_long h (content.Chunk c) t s = omega arith
content_long h Gone t s = omega arith

pub body_long : (page : Page) → fits page ≡ true → Sized page.content → length (body page) ≡ 254
unfolding body fits
body_long page t s =
    let w = written page in
    let l = written_long page in
    let good : content_fits page.header page.content ≡ true = (and_parts (header_fits page.header) (content_fits page.header page.content) t).1 in
    let k = content_long page.header page.content good s in
    length-append w (replicate (254 - length w) 255) ∙ omega (arith, length-replicate {A = ℕ} (254 - length w) 255)

pub encoded_is_data : (page : Page) → fits page ≡ true → Sized page.content → is_data (encoded page) ≡ true
unfolding encoded is_data
encoded_is_data page t s =
    let z = sum_by zeros_of (body page) in
    let few : z ≤ length (body page) * 8 = few_zeros (body page) in
    let l = body_long page t s in
    let whole : z / 256 % 256 * 256 + z % 256 ≡ z = omega arith in
    eq-eqb _ _ whole

file_range : (h : Header) (c : Content) → content_fits h c ≡ true → h.file ≤ h.number
file_range h Note t = let e : h.file ≡ 0 = eqb-true h.file 0 t in omega arith
file_range h (content.Entry e) t = leb-true _ _ (and_parts _ _ (and_parts _ _ t).0).1
file_range h (content.Chunk c) t = leb-true _ _ (and_parts _ _ (and_parts _ _ t).0).1
file_range h Gone t = leb-true _ _ (and_parts _ _ t).1

kind_range : (c : Content) → kind_number c < 4
kind_range Note = omega arith
kind_range (content.Entry e) = omega arith
kind_range (content.Chunk c) = omega arith
kind_range Gone = omega arith

header_back : (page : Page) → fits page ≡ true → page.header.number < 4294967296 → header_at (encoded page) ≡ page.header
unfolding encoded body fits
header_back page t l =
    let h = page.header in
    let r = header_ranges h (and_parts _ _ t).0 in
    header_read (encoded page) (kind_number page.content) h r (kind_range page.content) l (file_range h page.content (and_parts _ _ t).1) refl refl refl refl

kind_back : (page : Page) → fits page ≡ true → field (encoded page) 16 3 ≡ kind_number page.content
unfolding encoded body fits
kind_back page t =
    kind_read (encoded page) (kind_number page.content) page.header (header_ranges page.header (and_parts _ _ t).0) (kind_range page.content) refl

-- what stands after the header, by its kind
by_kind : (h : Header) (c : Content) → content_fits h c ≡ true → Sized c → content_of_kind (kind_number c) (encoded (record { header = h; content = c })) ≡ Some c
unfolding encoded body
by_kind h Note t s = refl
by_kind h (content.Entry e) t s =
    let page : Page = record { header = h; content = content.Entry e } in
    let r = entry_ranges e (and_parts _ _ t).1 in
    ap (λ x. Some (content.Entry x)) (entry_read (encoded page) e (replicate (254 - length (written page)) 255) r s refl refl refl)
by_kind h (content.Chunk c) t s =
    let page : Page = record { header = h; content = content.Chunk c } in
    let i = ltb-true _ _ (and_parts _ _ t).1 in
    ap (λ x. Some (content.Chunk x)) (chunk_read (encoded page) c (replicate (254 - length (written page)) 255) i s refl refl)
by_kind h Gone t s = refl

content_back : (page : Page) → fits page ≡ true → Sized page.content → content_at (encoded page) ≡ Some page.content
unfolding fits
content_back page t s = ap (λ k. content_of_kind k (encoded page)) (kind_back page t) ∙ by_kind page.header page.content (and_parts _ _ t).1 s

pub round_trip : (page : Page) → fits page ≡ true → page.header.number < 4294967296 → Sized page.content → decoded (encoded page) ≡ Ok page
unfolding decoded
round_trip page t l s =
    let b = encoded page in
    cond-true (is_data b) (assembled (header_at b) (content_at b)) (Err NotData) (encoded_is_data page t s)
    ∙ ap₂ (λ (h : Header) (o : Option Content). assembled h o) (header_back page t l) (content_back page t s)
    ∙ cond-true (fits page) (Ok page) (Err OutOfRange) t
