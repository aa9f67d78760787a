use Rattle.pipe_requests.proofs.OneMeaning.{one_meaning_lem}
use Rattle.pipe_requests.proofs.laws.one_meaning.Goals as goal

pub returns : goal.returns
returns c = one_meaning_lem
