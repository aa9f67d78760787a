use Rattle.std.proofs.Common.{arith}
use Rattle.table_core.proofs.key.Key.head.Goals as goal

pub overflow_mul-result : goal.overflow_mul-result
overflow_mul-result c = omega arith

pub overflow_add-result : goal.overflow_add-result
overflow_add-result c = omega arith
