use Rattle.periods.proofs.Periods.{periods_add_lem}
use Rattle.periods.proofs.laws.periods_add.Goals as goal

pub returns : goal.returns
returns c = periods_add_lem
