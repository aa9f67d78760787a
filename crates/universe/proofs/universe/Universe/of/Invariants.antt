use Rattle.std.proofs.Common.{◌-◌, ◌≤◌}
use Rattle.universe.proofs.universe.Universe.of.Given as goal

-- no size is above the limit
abbrev pub invariant-sizes : goal.invariant-sizes
invariant-sizes g l = l.shape.bits ≤ l.limit.bits

abbrev pub decreases-sizes : goal.decreases-sizes
decreases-sizes g l = l.limit.bits - l.shape.bits
