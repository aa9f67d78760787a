use Rattle.periods.proofs.ManyTimes.{multiples_lem}
use Rattle.periods.proofs.laws.multiples.Goals as goal

pub returns : goal.returns
returns c = multiples_lem
