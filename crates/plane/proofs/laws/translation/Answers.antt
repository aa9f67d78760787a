use Rattle.plane.proofs.Cones.{translation_lem}
use Rattle.plane.proofs.laws.translation.Goals as goal

pub returns : goal.returns
returns c = translation_lem
