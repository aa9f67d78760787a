use Rattle.std.proofs.Common.{arith}
use Rattle.table_core.proofs.Ways.{size_fits}
use Rattle.node_sweep.proofs.transfer.Transfer.number_count.Goals as goal

pub overflow_add-result : goal.overflow_add-result
overflow_add-result c =
    let first = c.index.ensures.index in
    let count = c.slot_count.ensures in
    let fits = size_fits c.args.self.now.old.key.now.shape.bits c.args.self.now.old.key.now.shape.range.1 in
    omega arith
