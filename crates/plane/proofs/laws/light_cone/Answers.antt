use Rattle.plane.proofs.Cones.{light_cone_lem}
use Rattle.plane.proofs.laws.light_cone.Goals as goal

pub returns : goal.returns
returns c = light_cone_lem
