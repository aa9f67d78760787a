use Rattle.table_core.proofs.Teaching.{every_event_teaches}
use Rattle.table_core.proofs.laws.every_event_teaches.Goals as goal

pub returns : goal.returns
returns c = every_event_teaches
