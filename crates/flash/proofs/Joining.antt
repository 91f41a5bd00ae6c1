-- A joined flash, from the answer of the flash that was asked to what the contract says.
use Rattle.std.proofs.Common.{◌≡◌, ℕ, ◌-◌, ◌*◌, ◌<◌, ◌≤◌, Bool, true, false, ltb, List, length, IsErrAnd, Err, sym, refl, ap, ◌∙◌, subst, inl, inr, arith, ltb-false, ltb-true}
use borrow.Author.Tests.{both_ways}
use Rattle.std.proofs.lemmas.Bool.{and_parts}
use Rattle.flash.specs.declared.fault.FlashFault.{FlashFault}
use Rattle.flash.specs.Chip.{Chip, Formed}
use Rattle.flash.specs.Faults.{Admits}
use Rattle.flash.specs.Joined.{joined, joined_blocks, retold, ProgramsOne, ErasesOne}
use Rattle.flash.specs.Joins.{Shaped, shaped, first_within, joined_long}
use Rattle.flash.specs.Says.{Reads, Programs, Erases}
use Rattle.flash.proofs.Refusals.{Answer, handed_on, read_refused, program_refused, erase_refused, program_one_refused, erase_one_refused}
use Rattle.flash.proofs.Sides.{reads_first, reads_second, programs_first, programs_second, erases_first, erases_second}

-- what the bounds know of the two flashes
pub record Two (n : ℕ) (a b : Chip) : Type 0 where
  pub first : Shaped n a
  pub second : Shaped n b

pub two : {n m : ℕ} {a b : Chip} → n ≡ 16 → m ≡ 16 → Formed n a → Formed m b → Two 16 a b
two {n} {m} {a} {b} en em fa fb =
    record { first = shaped 16 a (subst (λ i. Formed i a) en fa); second = shaped 16 b (subst (λ i. Formed i b) em fb) }

-- the product that the code computes is the number of pages that the meaning names
pub counted : {x y m n : ℕ} {a b : Chip} → Two n a b → m ≡ n → x ≡ m → y ≡ joined_blocks a b → x * y ≡ length (joined a b).pages
counted {x} {y} {m} {n} {a} {b} t en ex ey = ap (λ i. i * y) (ex ∙ en) ∙ ap (λ i. n * i) ey ∙ sym (joined_long n a b t.first t.second)

-- the code knows the power of the two as `on`, and whether they have the place as the test of `p` against `s`
module _ {n : ℕ} {a b : Chip} (t : Two n a b) {on : Bool} (power : on ≡ (joined a b).on) where
  total : length (joined a b).pages ≡ n * joined_blocks a b
  total = joined_long n a b t.first t.second

  first_fits : length a.pages ≤ length (joined a b).pages
  first_fits = omega (arith, total, t.first.paged, first_within n a b t.first t.second)

  -- what was not admitted
  module _ (p s : ℕ) (x : FlashFault) (r : Answer) (admits : Admits on (ltb p s) (Err x)) (handed : IsErrAnd r (λ y. y ≡ x)) where
    refused : Admits (joined a b).on (ltb p s) (Err x)
    refused = subst (λ o. Admits o (ltb p s) (Err x)) power admits

    back : Err x ≡ r
    back = sym (handed_on r x handed)

    pub read_not_admitted : (y : List ℕ) → s ≡ length (joined a b).pages → Reads (joined a b) p y r y
    read_not_admitted y es =
        subst (λ z. Reads (joined a b) p y z y) back (read_refused (joined a b) p y (ltb p s) x (λ past. omega (arith, ltb-false p s past)) refused)

    pub program_not_admitted : (w : List ℕ) → s ≡ length (joined a b).pages → record { says : Programs (joined a b) p w r (joined a b); one : ProgramsOne a b p w r a b }
    program_not_admitted w es =
        let past : ltb p s ≡ false → length (joined a b).pages ≤ p = λ f. omega (arith, ltb-false p s f) in
        record {
          says = subst (λ z. Programs (joined a b) p w z (joined a b)) back (program_refused (joined a b) p w (ltb p s) x past refused);
          one = subst (λ z. ProgramsOne a b p w z a b) back (program_one_refused a b p w (ltb p s) x first_fits past refused);
        }

    pub erase_not_admitted : s ≡ joined_blocks a b → record { says : Erases (joined a b) p r (joined a b); one : ErasesOne a b p r a b }
    erase_not_admitted es =
        let past : ltb p s ≡ false → joined_blocks a b ≤ p = λ f. omega (arith, ltb-false p s f) in
        record {
          says = subst (λ z. Erases (joined a b) p z (joined a b)) back (erase_refused (joined a b) p (ltb p s) x past refused);
          one = subst (λ z. ErasesOne a b p z a b) back (erase_one_refused a b p (ltb p s) x (omega (arith, t.first.few)) past refused);
        }

  -- what was admitted, and which of the two has the place: the first has `i` pages or blocks
  module _ (up : on ≡ true) where
    both : (joined a b).on ≡ true
    both = sym power ∙ up

    aon : a.on ≡ true
    aon = (and_parts a.on b.on both).0

    bon : b.on ≡ true
    bon = (and_parts a.on b.on both).1

    not_off : {X : Type 0} → (joined a b).on ≡ false → X
    not_off off = absurd (both_ways (joined a b).on off both)

    pub read_first : (p : ℕ) {i : ℕ} (x y : List ℕ) (r : Answer) → i ≡ length a.pages → p < i → Reads a p x r y → Reads (joined a b) p x r y
    read_first p {i} x y r ei h says = reads_first n a b t.first t.second aon bon p x y r (omega arith) says

    pub read_second : (p : ℕ) {s i : ℕ} (x y : List ℕ) (r : Answer) → s ≡ length (joined a b).pages → ltb p s ≡ true → i ≡ length a.pages → i ≤ p → Reads b (p - i) x r y → Reads (joined a b) p x r y
    read_second p {s} {i} x y r es within ei g says =
        reads_second n a b t.first t.second aon bon p x y r (omega arith) (omega (arith, total, ltb-true p s within)) (subst (λ k. Reads b (p - k) x r y) ei says)

    pub program_first : (p : ℕ) {i : ℕ} (w : List ℕ) (x : Chip) (r : Answer) → i ≡ length a.pages → p < i → Programs a p w r x
        → record { says : Programs (joined a b) p w r (joined x b); one : ProgramsOne a b p w r x b }
    program_first p {i} w x r ei h says =
        record {
          says = programs_first n a b t.first t.second aon bon p w x r (omega arith) says;
          one = record {
            first = λ _ _. (says, refl);
            second = λ _ g _. absurd (omega arith);
            refused = λ no_call. elim no_call [ inl off ↦ not_off off | inr past ↦ absurd (omega (arith, first_fits)) ];
          };
        }

    pub program_second : (p : ℕ) {s i : ℕ} (w : List ℕ) (y : Chip) (r z : Answer) → s ≡ length (joined a b).pages → ltb p s ≡ true → i ≡ length a.pages → i ≤ p → Programs b (p - i) w r y → z ≡ retold p r
        → record { says : Programs (joined a b) p w z (joined a y); one : ProgramsOne a b p w z a y }
    program_second p {s} {i} w y r z es within ei g says ez =
        let h : p < s = ltb-true p s within in
        let here : Programs b (p - length a.pages) w r y = subst (λ k. Programs b (p - k) w r y) ei says in
        record {
          says = subst (λ q. Programs (joined a b) p w q (joined a y)) (sym ez) (programs_second n a b t.first t.second aon bon p w y r (omega arith) (omega (arith, total)) here);
          one = record {
            first = λ _ l. absurd (omega arith);
            second = λ _ _ _. (r, here, ez, refl);
            refused = λ no_call. elim no_call [ inl off ↦ not_off off | inr past ↦ absurd (omega arith) ];
          };
        }

    pub erase_first : (p : ℕ) {i : ℕ} (x : Chip) (r : Answer) → i ≡ a.blocks → p < i → Erases a p r x → record { says : Erases (joined a b) p r (joined x b); one : ErasesOne a b p r x b }
    erase_first p {i} x r ei h says =
        record {
          says = erases_first n a b t.first t.second aon bon p x r (omega arith) says;
          one = record {
            first = λ _ _. (says, refl);
            second = λ _ g _. absurd (omega arith);
            refused = λ no_call. elim no_call [ inl off ↦ not_off off | inr past ↦ absurd (omega (arith, t.first.few)) ];
          };
        }

    pub erase_second : (p : ℕ) {s i : ℕ} (y : Chip) (r z : Answer) → s ≡ joined_blocks a b → ltb p s ≡ true → i ≡ a.blocks → i ≤ p → Erases b (p - i) r y → z ≡ retold p r
        → record { says : Erases (joined a b) p z (joined a y); one : ErasesOne a b p z a y }
    erase_second p {s} {i} y r z es within ei g says ez =
        let h : p < s = ltb-true p s within in
        let here : Erases b (p - a.blocks) r y = subst (λ k. Erases b (p - k) r y) ei says in
        record {
          says = subst (λ q. Erases (joined a b) p q (joined a y)) (sym ez) (erases_second n a b t.first t.second aon bon p y r (omega arith) (omega arith) here);
          one = record {
            first = λ _ l. absurd (omega arith);
            second = λ _ _ _. (r, here, ez, refl);
            refused = λ no_call. elim no_call [ inl off ↦ not_off off | inr past ↦ absurd (omega arith) ];
          };
        }
