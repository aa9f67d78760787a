use Rattle.table_core.proofs.FullWays.{every_full_way_stays}
use Rattle.table_core.proofs.laws.every_full_way_stays.Goals as goal

pub returns : goal.returns
returns c = every_full_way_stays
