use Rattle.viewport.proofs.OneList.{one_list_of_runs_lem}
use Rattle.viewport.proofs.laws.one_list_of_runs.Goals as goal

pub returns : goal.returns
returns c = one_list_of_runs_lem
