use Rattle.table_core.proofs.Reopenings.{every_reopening}
use Rattle.table_core.proofs.laws.every_reopening.Goals as goal

pub returns : goal.returns
returns c = every_reopening
