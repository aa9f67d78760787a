use Rattle.std.proofs.Common.{arith}
use Rattle.std.proofs.lemmas.Int.{ints}
use Rattle.viewport.proofs.sides.rows_above.Goals as goal

pub overflow_sub-half : goal.overflow_sub-half
overflow_sub-half c = omega (arith, ints)

pub returns-then-y-half : goal.returns-then-y-half
returns-then-y-half c = grind (arith, ints)

pub overflow_add-result : goal.overflow_add-result
overflow_add-result c = omega (arith, ints)

pub overflow_cast-result : goal.overflow_cast-result
overflow_cast-result c = omega (arith, ints)

pub returns-else-y-half : goal.returns-else-y-half
returns-else-y-half c = grind (arith, ints)
