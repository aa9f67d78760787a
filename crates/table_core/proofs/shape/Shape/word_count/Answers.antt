use Rattle.std.proofs.Common.{arith}
use Rattle.table_core.proofs.Ways.{size_fits}
use Rattle.table_core.proofs.shape.Shape.word_count.Goals as goal

pub overflow_add-result-2 : goal.overflow_add-result-2
overflow_add-result-2 c = let f = size_fits c.args.self.bits c.args.self.range.1 in omega arith

pub overflow_add-result-3 : goal.overflow_add-result-3
overflow_add-result-3 c = let f = size_fits c.args.self.bits c.args.self.range.1 in omega arith
