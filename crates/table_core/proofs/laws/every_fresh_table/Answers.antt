use Rattle.table_core.proofs.Reopenings.{every_fresh_table}
use Rattle.table_core.proofs.laws.every_fresh_table.Goals as goal

pub returns : goal.returns
returns c = every_fresh_table
