use Rattle.plane.proofs.Windows.{listing_in}
use Rattle.plane.proofs.laws.bounded_listing.Goals as goal

pub returns : goal.returns
returns c = listing_in
