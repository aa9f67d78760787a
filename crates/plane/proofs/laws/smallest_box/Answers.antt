use Rattle.plane.proofs.Boxes.{smallest_box_lem}
use Rattle.plane.proofs.laws.smallest_box.Goals as goal

pub returns : goal.returns
returns c = smallest_box_lem
