-- A line from its parts, and a listing from its lines.
use Rattle.std.proofs.Common.{◌≡◌, ℕ, ◌+◌, ◌≤◌, List, [], ◌∷◌, ◌++◌, length, drop, decimal, sym, refl, ap, ◌∙◌, append_assoc, zero-add, arith, length-append}
use Rattle.std.proofs.lemmas.Fmt.{length-decimal-le}
use Rattle.std.proofs.lemmas.List.{append-nil}
use Rattle.page.specs.declared.fields.Entry.{Entry}
use Rattle.page.specs.Pasted.{pasted}
use Rattle.page.proofs.Pasting.{pasted_none}
use Rattle.tree.specs.Tree.{Entries}
use Rattle.listing.specs.Listing.{letter, line, LineOf, Lines}
use Rattle.listing.specs.declared.pen.Pen.{Pen}
use Rattle.listing.specs.Writes.{Adds, Writes}
use Rattle.listing.proofs.Writing.{adds_as, adds_more}

-- a file's length has at most four digits
pub digits_short : (n : ℕ) → n ≤ 7168 → length (decimal n) ≤ 4
digits_short n le = length-decimal-le 4 n (omega arith) (omega arith) (omega arith)

pub line_short : (e : Entry) (path : List ℕ) → e.length ≤ 7168 → length path ≤ 200 → length (line e path) ≤ 208
line_short e path le short =
    omega (arith, digits_short e.length le, length-append (decimal e.length) (32 ∷ (path ++ (10 ∷ []))), length-append path (10 ∷ []))

-- the parts of a line, written one after another
pub adds_line : (p q r s t u : Pen) (e : Entry) (path : List ℕ) → p.end + 208 ≤ length p.out.now → e.length ≤ 7168 → length path ≤ 200
    → Adds p (letter e.kind ∷ (32 ∷ [])) q → Adds q (decimal e.length) r → Adds r (32 ∷ []) s → Adds s path t → Adds t (10 ∷ []) u → Adds p (line e path) u
adds_line p q r s t u e path room le short a b c d f =
    let ds = decimal e.length in
    let x = letter e.kind ∷ (32 ∷ []) in
    let few = digits_short e.length le in
    let one = length-append x ds in
    let two = length-append (x ++ ds) (32 ∷ []) in
    let three = length-append ((x ++ ds) ++ (32 ∷ [])) path in
    adds_as p u ((((x ++ ds) ++ (32 ∷ [])) ++ path) ++ (10 ∷ [])) (line e path) (simp append_assoc)
    (adds_more p t u (((x ++ ds) ++ (32 ∷ [])) ++ path) (10 ∷ []) (omega (arith, one, two, three))
    (adds_more p s t ((x ++ ds) ++ (32 ∷ [])) path (omega (arith, one, two))
    (adds_more p r s (x ++ ds) (32 ∷ []) (omega (arith, one))
    (adds_more p q r x ds (omega arith) a b) c) d) f)

-- one more line
pub lines_more : (E : Entries) (files : List ℕ) (file : ℕ) (text one : List ℕ) → Lines E files text → LineOf E file one → Lines E (files ++ (file ∷ [])) (text ++ one)
lines_more E [] file text one ls l = (one, l, [], refl, ap (λ (t : List ℕ). t ++ one) ls ∙ sym (append-nil one))
lines_more E (f ∷ files) file text one (first, is, rest, ls, e) l =
    (first, is, rest ++ one, lines_more E files file rest one ls l, ap (λ (t : List ℕ). t ++ one) e ∙ append_assoc first rest one)

-- nothing is written yet
pub adds_none : (p : Pen) → Adds p [] p
adds_none p = record { same = refl; long = refl; writes = record { ends = omega arith; buffer = sym (pasted_none p.out.now p.end) } }

-- a text at the front
pub writes_front : (p q text : List ℕ) (end : ℕ) → Writes p 0 text end q → (end ≡ length text) × (q ≡ text ++ drop (length text) p)
unfolding pasted
writes_front p q text end w = (omega (arith, w.ends), w.buffer ∙ ap (λ n. text ++ drop n p) (zero-add (length text)))
