use Rattle.table_core.proofs.Slots.{every_result_has_its_slot}
use Rattle.table_core.proofs.laws.every_result_has_its_slot.Goals as goal

pub returns : goal.returns
returns c = every_result_has_its_slot
