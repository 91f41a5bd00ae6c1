-- The parts of a page, put into a blank one, make the encoded page.
use Rattle.std.proofs.Common.{◌≡◌, ℕ, ◌+◌, ◌-◌, List, [], ◌∷◌, ◌++◌, length, drop, replicate, sym, refl, ap, ◌∙◌, arith}
use Rattle.std.proofs.lemmas.List.{drop-replicate}
use Rattle.page.specs.declared.fields.Header.{Header}
use Rattle.page.specs.declared.fields.Content.{Content}
use Rattle.page.specs.declared.fields.Content.TheVariants.{Note, Gone}
use Rattle.page.specs.declared.fields.Content.TheVariants as content
use Rattle.page.specs.declared.fields.Page.{Page}
use Rattle.page.specs.Code.{blank}
use Rattle.page.specs.Encoded.{be24, be32, lead, packed, header_bytes, content_bytes, kind_number, written, body, encoded}
use Rattle.page.specs.Names.{name_text}
use Rattle.page.specs.Pasted.{pasted, with_header, with_content, with_count, put_together}
use Rattle.page.proofs.Pasting.{pasted_more, pasted_none}

opened : (xs : List ℕ) → pasted blank 2 xs ≡ 255 ∷ 255 ∷ (xs ++ replicate (254 - length xs) 255)
unfolding blank pasted
opened xs =
    let n = length xs in
    let k : 256 - (2 + n) ≡ 254 - n = omega arith in
    let rest : drop (2 + n) (replicate 256 255) ≡ replicate (254 - n) 255 = drop-replicate (2 + n) 256 255 ∙ ap (λ j. replicate j 255) k in
    ap (λ (t : List ℕ). 255 ∷ 255 ∷ (xs ++ t)) rest

-- the header is put in one piece
with_header_is : (p : List ℕ) (kind : ℕ) (h : Header) → length p ≡ 256 → with_header p kind h ≡ pasted p 2 (header_bytes kind h)
with_header_is p kind h long =
    let first = lead kind h ∷ [] in
    let number = be32 h.number in
    let floor = be32 h.floor in
    ap (λ (q : List ℕ). pasted (pasted q 7 floor) 11 (be32 h.file)) (pasted_more p 2 3 first number (omega arith) refl)
    ∙ ap (λ (q : List ℕ). pasted q 11 (be32 h.file)) (pasted_more p 2 7 (first ++ number) floor (omega arith) refl)
    ∙ pasted_more p 2 11 (first ++ number ++ floor) (be32 h.file) (omega arith) refl

-- and so is what stands after it
with_content_is : (p : List ℕ) (c : Content) → length p ≡ 256 → with_content p c ≡ pasted p 15 (content_bytes c)
with_content_is p Note long = sym (pasted_none p 15)
with_content_is p (content.Entry e) long =
    let directory = be32 e.directory in
    ap (λ (q : List ℕ). pasted q 22 (name_text e.name)) (pasted_more p 15 19 directory (be24 (packed e)) (omega arith) refl)
    ∙ pasted_more p 15 22 (directory ++ be24 (packed e)) (name_text e.name) (omega arith) refl
with_content_is p (content.Chunk c) long = pasted_more p 15 16 (c.index ∷ []) c.bytes (omega arith) refl
with_content_is p Gone long = sym (pasted_none p 15)

header_long : (kind : ℕ) (h : Header) → length (pasted blank 2 (header_bytes kind h)) ≡ 256
unfolding blank pasted
header_long kind h = refl

all_but_count : (page : Page) → with_content (with_header blank (kind_number page.content) page.header) page.content ≡ 255 ∷ 255 ∷ body page
unfolding blank body
all_but_count page =
    let kind = kind_number page.content in
    let head = header_bytes kind page.header in
    let rest = content_bytes page.content in
    ap (λ (q : List ℕ). with_content q page.content) (with_header_is blank kind page.header refl)
    ∙ with_content_is (pasted blank 2 head) page.content (header_long kind page.header)
    ∙ pasted_more blank 2 15 head rest (omega arith) refl
    ∙ opened (written page)

counted : (page : Page) → with_count (255 ∷ 255 ∷ body page) ≡ encoded page
unfolding encoded pasted
counted page = refl

pub placed : (page : Page) → put_together page ≡ encoded page
placed page = ap with_count (all_but_count page) ∙ counted page
