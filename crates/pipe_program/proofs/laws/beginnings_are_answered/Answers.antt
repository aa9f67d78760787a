use Rattle.pipe_program.proofs.FirstRequests.{beginnings_lem}
use Rattle.pipe_program.proofs.laws.beginnings_are_answered.Goals as goal

pub returns : goal.returns
returns c = beginnings_lem
