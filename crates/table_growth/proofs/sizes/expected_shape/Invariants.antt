use Rattle.std.proofs.Common.{◌-◌, ◌≤◌}
use Rattle.table_growth.proofs.sizes.expected_shape.Given as goal

abbrev pub invariant-loop-bits : goal.invariant-loop-bits
invariant-loop-bits l = record {
  low : 10 ≤ l.bits;
  high : l.bits ≤ l.limit.bits;
}

abbrev pub decreases-loop-bits : goal.decreases-loop-bits
decreases-loop-bits l = l.limit.bits - l.bits
