use Rattle.period_search.proofs.OneAnswers.{one_answer_lem}
use Rattle.period_search.proofs.search.one_answer.Goals as goal

pub returns : goal.returns
returns c = one_answer_lem
