use Rattle.std.proofs.Common.{ℕ, ◌-◌, ◌<◌, ◌≤◌}
use Rattle.pattern_picture.specs.Scale.{longer_side}
use Rattle.pattern_picture.proofs.scale.smallest_exponent.Given as goal

abbrev pub invariant-loop-shown : goal.invariant-loop-shown
invariant-loop-shown l = (l.exponent ≤ 62) × ((other : ℕ) → other < l.exponent → l.size < longer_side other l.fn.shown)

abbrev pub decreases-loop-shown : goal.decreases-loop-shown
decreases-loop-shown l = 62 - l.exponent
