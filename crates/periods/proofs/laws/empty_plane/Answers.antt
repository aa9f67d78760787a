use Rattle.periods.proofs.Empty.{empty_plane_lem}
use Rattle.periods.proofs.laws.empty_plane.Goals as goal

pub returns : goal.returns
returns c = empty_plane_lem
