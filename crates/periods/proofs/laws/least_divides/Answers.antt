use Rattle.periods.proofs.ManyTimes.{least_divides_lem}
use Rattle.periods.proofs.laws.least_divides.Goals as goal

pub returns : goal.returns
returns c = least_divides_lem
