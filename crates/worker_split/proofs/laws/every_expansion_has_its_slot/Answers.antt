use Rattle.worker_split.proofs.Slots.{every_expansion_has_its_slot}
use Rattle.worker_split.proofs.laws.every_expansion_has_its_slot.Goals as goal

pub returns : goal.returns
returns c = every_expansion_has_its_slot
