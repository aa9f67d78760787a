use Rattle.pattern_picture.proofs.OneScale.{one_scale_lem}
use Rattle.pattern_picture.proofs.laws.one_scale.Goals as goal

pub returns : goal.returns
returns c = one_scale_lem
