use Rattle.page.proofs.TornPages.{torn_program}
use Rattle.page.proofs.tearing.torn_program_adds_no_other_page.Goals as goal

pub returns : goal.returns
returns c = torn_program
