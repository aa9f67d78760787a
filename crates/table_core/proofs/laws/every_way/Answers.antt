use Rattle.table_core.proofs.Ways.{every_way}
use Rattle.table_core.proofs.laws.every_way.Goals as goal

pub returns : goal.returns
returns c = every_way
