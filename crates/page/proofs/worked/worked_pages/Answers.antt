use Rattle.std.proofs.Common.{refl}
use lib.Count.{ones, ones_in}
use Rattle.page.specs.Bits.{bit, field}
use Rattle.page.specs.Code.{blank, is_data}
use Rattle.page.specs.Decoded.{decoded}
use Rattle.page.specs.Encoded.{body, encoded}
use Rattle.page.specs.Fits.{fits}
use Rattle.page.proofs.worked.worked_pages.Goals as goal

pub returns : goal.returns
unfolding ones ones_in is_data fits decoded bit field blank body encoded
returns c =
    record {
      note_count = refl;
      note_state = refl;
      note_reads = refl;
      note_written = refl;
      risen_count = refl;
      risen_state = refl;
      blank_state = refl;
      dark_state = refl;
    }
