use Rattle.periods.proofs.ManyTimes.{exactly_multiples_lem}
use Rattle.periods.proofs.laws.exactly_multiples.Goals as goal

pub returns : goal.returns
returns c = exactly_multiples_lem
