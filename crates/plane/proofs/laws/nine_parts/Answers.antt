use Rattle.plane.proofs.Parts.{nine_parts_lem}
use Rattle.plane.proofs.laws.nine_parts.Goals as goal

pub returns : goal.returns
returns c = nine_parts_lem
