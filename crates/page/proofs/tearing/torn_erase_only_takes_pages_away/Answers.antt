use Rattle.page.proofs.TornPages.{torn_erase}
use Rattle.page.proofs.tearing.torn_erase_only_takes_pages_away.Goals as goal

pub returns : goal.returns
returns c = torn_erase
