-- The logs of chips that differ in pages which tell nothing.
use Rattle.std.proofs.Common.{ℕ, ◌≤◌, sym, refl, ap, ◌∙◌, inl, inr, arith}
use Rattle.flash.specs.Chip.{Chip, page}
use Rattle.page.specs.Decoded.{decoded}
use Rattle.std.proofs.lemmas.Bool.{and_parts}
use Rattle.page.specs.Fits.{fits, header_fits, content_fits}
use Rattle.page.proofs.Decodes.{decoded_ok}
use Rattle.page.proofs.Ranges.{header_ranges}
use Rattle.replay.specs.Log.{LogOf, Logged, number_of, floor_of, index_of}
use Rattle.replay.specs.Laws.{DataWithin, OnlyDataTells, Less, FreeBlockTellsNothing, CutShortGroupDoesNotCount}
use Rattle.replay.specs.Changes.{Fewer}
use Rattle.replay.proofs.Base.{same_logs}
use Rattle.replay.proofs.Erase.{torn_erase}

-- a page of one log is a page of the other, where its data page is
log_within : (c d : Chip) → DataWithin c d → (p : Logged) → LogOf c p → LogOf d p
log_within c d to p (h, e) =
    let there = to p.place (h, (decoded_ok (page c p.place) p.page e).0) in
    (there.0.0, ap decoded there.1 ∙ e)

pub only_data_tells : OnlyDataTells
only_data_tells c d to from = same_logs (log_within c d to) (log_within d c from)

-- a data page's floor is at most its number
pub floor_low : (c : Chip) (p : Logged) → LogOf c p → floor_of p ≤ number_of p
unfolding fits
floor_low c p (h, e) =
    let made = (decoded_ok (page c p.place) p.page e).1 in
    (header_ranges p.page.header (and_parts (header_fits p.page.header) (content_fits p.page.header p.page.content) made.fitting).0).low

-- what is left of a chip's block leaves a log with fewer pages of it
pub fewer_logs : (c d : Chip) (b : ℕ) → Less c d b → Fewer (LogOf c) (LogOf d) c.per_block b
fewer_logs c d b less =
    record {
      only = log_within d c less.only;
      rest = λ p (h, e) outside.
          let there = less.rest p.place outside (h, (decoded_ok (page c p.place) p.page e).0) in
          (there.0, ap decoded (sym (less.only p.place there).1) ∙ e);
    }

pub free_block_tells_nothing : FreeBlockTellsNothing
free_block_tells_nothing c d b t distinct top free apart less =
    torn_erase (LogOf c) (LogOf d) c.per_block b t distinct top (floor_low c t top.here) free apart (fewer_logs c d b less)

pub cut_short_group_does_not_count : CutShortGroupDoesNotCount
cut_short_group_does_not_count p q f np ip sp nq iq sq low = (
  record { here = inr refl; high = omega arith; whole = λ k lt. (q, inr refl, record { numbered = omega arith; indexed = omega arith; sized = refl }) },
  λ c. let (r, here, part) = c.whole 1 (omega arith) in elim here [
    | inl e ↦ omega (arith, part.indexed, ap index_of e)
    | inr e ↦ omega (arith, part.indexed, ap index_of e)
  ],
)
