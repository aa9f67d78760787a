use Rattle.periods.proofs.Periods.{one_displacement_lem}
use Rattle.periods.proofs.laws.one_displacement.Goals as goal

pub returns : goal.returns
returns c = one_displacement_lem
