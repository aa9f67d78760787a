use Rattle.table_core.proofs.Powers.{count_bits}
use Rattle.table_core.proofs.shape.Shape.new.Goals as goal

pub invariant_of-result : goal.invariant_of-result
invariant_of-result c = let k = count_bits c.ilog2.result c.args.pairs c.ilog2.ensures.power_le c.ilog2.ensures.next_power_gt c.requires in record { range = (k.0, k.1) }

pub returns : goal.returns
returns c = (count_bits c.ilog2.result c.args.pairs c.ilog2.ensures.power_le c.ilog2.ensures.next_power_gt c.requires).2
