use Rattle.std.proofs.Common.{◌+◌, ◌*◌}
use Rattle.viewport.proofs.gaps.+gap.Given as goal

abbrev pub decreases-gap : goal.decreases-gap
decreases-gap g l = 3 * l.sq.level + 2

abbrev pub decreases-quarters_gap : goal.decreases-quarters_gap
decreases-quarters_gap g l = 3 * l.sq.level + 1

abbrev pub decreases-half_gap : goal.decreases-half_gap
decreases-half_gap g l = 3 * l.first.level + 3
