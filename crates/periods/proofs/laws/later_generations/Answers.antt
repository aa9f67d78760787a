use Rattle.periods.proofs.Periods.{later_generations_lem}
use Rattle.periods.proofs.laws.later_generations.Goals as goal

pub returns : goal.returns
returns c = later_generations_lem
