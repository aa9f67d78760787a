use Rattle.pipe_requests.proofs.NameLemmas.{name_is_text}
use Rattle.pipe_requests.proofs.name.Name.of.Goals as goal

pub returns-in-Err-clause-none : goal.returns-in-Err-clause-none
returns-in-Err-clause-none c = λ named. c.in-Err.ensures.cases.0 (name_is_text _ named)
