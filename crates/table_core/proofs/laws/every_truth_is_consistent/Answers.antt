use Rattle.table_core.proofs.Consistency.{every_truth_is_consistent}
use Rattle.table_core.proofs.laws.every_truth_is_consistent.Goals as goal

pub returns : goal.returns
returns c = every_truth_is_consistent
