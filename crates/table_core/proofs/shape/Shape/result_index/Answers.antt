use Rattle.std.proofs.Common.{arith}
use Rattle.table_core.proofs.Ways.{size_fits}
use Rattle.table_core.proofs.shape.Shape.result_index.Goals as goal

pub overflow_add-result : goal.overflow_add-result
overflow_add-result c = let f = size_fits c.args.self.bits c.args.self.range.1 in let k = c.requires.below in omega arith
