use Rattle.listing.proofs.Listings.{one_listing}
use Rattle.listing.proofs.laws.one_listing.Goals as goal

pub returns : goal.returns
returns c = one_listing
