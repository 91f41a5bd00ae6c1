-- What is known of bytes that decode to a page.
use Rattle.std.proofs.Common.{◌≡◌, ℕ, Bool, true, false, cond, List, Some, None, Ok, Err, Option, Result, sym, refl, ap, ◌∙◌, arith}
use Rattle.std.proofs.lemmas.Bool.{eqb-true}
use Rattle.page.specs.declared.fields.Content.{Content}
use Rattle.page.specs.declared.fields.Header.{Header}
use Rattle.page.specs.declared.fields.Page.{Page}
use Rattle.page.specs.declared.fields.PageFault.{PageFault}
use Rattle.page.specs.declared.fields.PageFault.TheVariants.{NotData, OutOfRange}
use Rattle.page.specs.Code.{is_data, Settled, stored_count, zero_count}
use Rattle.page.specs.Decoded.{assembled, decoded}
use Rattle.page.specs.Fields.{header_at, content_at}
use Rattle.page.specs.Fits.{fits}

-- the header and the content that make a page
pub record Made (page : Page) (h : Header) (o : Option Content) : Type 0 where
  pub header : page.header ≡ h
  pub content : o ≡ Some page.content
  pub fitting : fits page ≡ true

checked_ok : (t : Bool) (p page : Page) → cond {A = Result Page PageFault} t (Ok p) (Err OutOfRange) ≡ Ok page → (t ≡ true) × (p ≡ page)
checked_ok true p page e = (refl, cc)
checked_ok false p page e = absurd cc

pub assembled_ok : (h : Header) (o : Option Content) (page : Page) → assembled h o ≡ Ok page → Made page h o
assembled_ok h None page e = absurd cc
assembled_ok h (Some c) page e =
    let p : Page = record { header = h; content = c } in
    let both = checked_ok (fits p) p page e in
    record {
      header = sym (ap (λ (x : Page). x.header) both.1);
      content = ap (λ (x : Page). Some x.content) both.1;
      fitting = ap fits (sym both.1) ∙ both.0;
    }

data_ok : (t : Bool) (r : Result Page PageFault) (page : Page) → cond t r (Err NotData) ≡ Ok page → (t ≡ true) × (r ≡ Ok page)
data_ok true r page e = (refl, e)
data_ok false r page e = absurd cc

-- bytes that decode are data, and give the page's header and content, which fit
pub decoded_ok : (bytes : List ℕ) (page : Page) → decoded bytes ≡ Ok page → (is_data bytes ≡ true) × Made page (header_at bytes) (content_at bytes)
unfolding decoded
decoded_ok bytes page e =
    let both = data_ok (is_data bytes) (assembled (header_at bytes) (content_at bytes)) page e in
    (both.0, assembled_ok (header_at bytes) (content_at bytes) page both.1)

-- a data page is settled
pub data_settled : (bytes : List ℕ) → is_data bytes ≡ true → Settled bytes
unfolding is_data
data_settled bytes t = let e : stored_count bytes ≡ zero_count bytes = eqb-true _ _ t in omega arith

assembled_read : (h : Header) (o : Option Content) → assembled h o ≡ Err NotData → ⊥
assembled_read h None e = cc
assembled_read h (Some c) e = go (fits (record { header = h; content = c })) e
  where
    go : (t : Bool) → cond {A = Result Page PageFault} t (Ok (record { header = h; content = c })) (Err OutOfRange) ≡ Err NotData → ⊥
    go true x = cc
    go false x = cc

-- a data page is never taken for none
pub data_read : (bytes : List ℕ) → is_data bytes ≡ true → decoded bytes ≡ Err NotData → ⊥
unfolding decoded
data_read bytes t e = assembled_read (header_at bytes) (content_at bytes) (ap (λ (b : Bool). cond b (assembled (header_at bytes) (content_at bytes)) (Err NotData)) (sym t) ∙ e)
