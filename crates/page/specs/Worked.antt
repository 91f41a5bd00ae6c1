-- Pages that are worked out by hand, byte by byte.
use Rattle.std.specs.Prelude.{◌≡◌, ℕ, List, [], ◌∷◌, ◌++◌, replicate, Ok}
use Rattle.page.specs.declared.code.PageState.TheVariants.{Erased, Data, Spoilt}
use Rattle.page.specs.declared.fields.Content.TheVariants.{Note}
use Rattle.page.specs.declared.fields.Page.{Page}
use Rattle.page.specs.Code.{blank, state_of, zero_count}
use Rattle.page.specs.Decoded.{decoded}
use Rattle.page.specs.Encoded.{encoded}

-- the note numbered 1, with floor 1, alone in its group
abbrev pub first_note : Page
first_note = record { header = record { index = 0; size = 1; number = 1; floor = 1; file = 0 }; content = Note }

-- its bytes: 00 65, 01, 00 00 00 01, 00 00 00 01, 00 00 00 and a last byte of the file number, then ones
abbrev pub note_bytes : ℕ → List ℕ
note_bytes last = (0 ∷ 101 ∷ 1 ∷ 0 ∷ 0 ∷ 0 ∷ 1 ∷ 0 ∷ 0 ∷ 0 ∷ 1 ∷ 0 ∷ 0 ∷ 0 ∷ last ∷ []) ++ replicate 241 255

-- 07 f0, then zeros: as many 0 bits as a page can count
abbrev pub dark : List ℕ
dark = 7 ∷ 240 ∷ replicate 254 0

-- the note is data and says what it should, with one risen bit it is spoilt, and the two extremes
pub record WorkedPages : Type 0 where
  pub note_count : zero_count (note_bytes 0) ≡ 101
  pub note_state : state_of (note_bytes 0) ≡ Data
  pub note_reads : decoded (note_bytes 0) ≡ Ok first_note
  pub note_written : encoded first_note ≡ note_bytes 0
  pub risen_count : zero_count (note_bytes 1) ≡ 100
  pub risen_state : state_of (note_bytes 1) ≡ Spoilt
  pub blank_state : state_of blank ≡ Erased
  pub dark_state : state_of dark ≡ Data
