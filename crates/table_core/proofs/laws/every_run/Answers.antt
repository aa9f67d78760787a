use Rattle.table_core.proofs.Running.{every_run}
use Rattle.table_core.proofs.laws.every_run.Goals as goal

pub returns : goal.returns
returns c = every_run
