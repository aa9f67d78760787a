use Rattle.engine.proofs.OneRun.{one_judgement_lem}
use Rattle.engine.proofs.laws.one_judgement.Goals as goal

pub returns : goal.returns
returns c = one_judgement_lem
