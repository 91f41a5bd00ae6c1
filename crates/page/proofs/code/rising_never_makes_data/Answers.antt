use Rattle.page.proofs.Rising.{rising_spoils}
use Rattle.page.proofs.code.rising_never_makes_data.Goals as goal

pub returns : goal.returns
returns c = rising_spoils
