use Rattle.plane.proofs.Uniqueness.{one_listing_lem}
use Rattle.plane.proofs.laws.one_listing.Goals as goal

pub returns : goal.returns
returns c = one_listing_lem
