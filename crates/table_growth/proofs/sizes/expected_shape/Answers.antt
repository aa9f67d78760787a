use Rattle.std.proofs.Common.{arith}
use Rattle.table_growth.proofs.sizes.expected_shape.Goals as goal

pub loop-bits-init : goal.loop-bits-init
loop-bits-init c =
    let is = c.smallest-bits.ensures in
    record { low = c.smallest-bits.result.range.0; high = omega (arith, is) }
