use Rattle.periods.proofs.Periods.{moved_plane_lem, same_plane_lem}
use Rattle.periods.proofs.laws.moved_plane.Goals as goal

pub returns : goal.returns
returns c = record { moved = moved_plane_lem; same = same_plane_lem }
