use Rattle.periods.proofs.ManyTimes.{no_period_no_divisor_lem}
use Rattle.periods.proofs.laws.no_period_no_divisor.Goals as goal

pub returns : goal.returns
returns c = no_period_no_divisor_lem
