use Rattle.engine.proofs.OneRun.{one_ending_lem}
use Rattle.engine.proofs.laws.one_ending.Goals as goal

pub returns : goal.returns
returns c = one_ending_lem
