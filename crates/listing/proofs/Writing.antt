-- Texts written one after another are one text.
use Rattle.std.proofs.Common.{◌≡◌, ℕ, ◌+◌, ◌-◌, ◌≤◌, List, ◌++◌, length, take, drop, refl, ap, ◌∙◌, subst, arith, length-append, length-drop, length-take}
use borrow.Rule.Slice.PartMut.{put_mid}
use Rattle.page.specs.Pasted.{pasted}
use Rattle.page.proofs.Pasting.{pasted_more, pasted_part}
use Rattle.listing.specs.declared.pen.Pen.{Pen}
use Rattle.listing.specs.Writes.{Adds, Writes}

-- what a copy into a part leaves
pub writes_part : (p : List ℕ) (at : ℕ) (xs ys : List ℕ) → ys ≡ xs → Writes p at xs (at + length xs) (put_mid at ((at + length xs) - at) p ys)
writes_part p at xs ys e = record { ends = refl; buffer = pasted_part p at xs ys e }

pub writes_as : (p q : List ℕ) (at n : ℕ) (xs ys : List ℕ) → xs ≡ ys → Writes p at xs n q → Writes p at ys n q
writes_as p q at n xs ys e w = subst (λ (t : List ℕ). Writes p at t n q) e w

pub writes_more : (p q r : List ℕ) (at m n : ℕ) (xs ys : List ℕ) → at + length xs ≤ length p → Writes p at xs m q → Writes q m ys n r → Writes p at (xs ++ ys) n r
writes_more p q r at m n xs ys room v w = record {
  ends = omega (arith, v.ends, w.ends, length-append xs ys);
  buffer = w.buffer ∙ ap (λ (t : List ℕ). pasted t m ys) v.buffer ∙ pasted_more p at m xs ys room v.ends;
}

pub adds_as : (p q : Pen) (xs ys : List ℕ) → xs ≡ ys → Adds p xs q → Adds p ys q
adds_as p q xs ys e w = subst (λ (t : List ℕ). Adds p t q) e w

pub adds_more : (p q r : Pen) (xs ys : List ℕ) → p.end + length xs ≤ length p.out.now → Adds p xs q → Adds q ys r → Adds p (xs ++ ys) r
adds_more p q r xs ys room v w = record {
  same = w.same ∙ v.same;
  long = w.long ∙ v.long;
  writes = writes_more p.out.now q.out.now r.out.now p.end q.end r.end xs ys room v.writes w.writes;
}

pub writes_long : (p : List ℕ) (at : ℕ) (xs : List ℕ) (n : ℕ) (q : List ℕ) → at + length xs ≤ length p → Writes p at xs n q → length q ≡ length p
unfolding pasted
writes_long p at xs n q room w =
    let parts = length-append (take at p) (xs ++ drop (at + length xs) p) in
    ap length w.buffer ∙ parts ∙ simp (length-take, length-drop, length-append) (omega arith)
