use Rattle.std.proofs.Common.{◌+◌, ◌*◌}
use Rattle.viewport.proofs.populations.+count.Given as goal

abbrev pub decreases-count : goal.decreases-count
decreases-count g l = 2 * l.sq.level + 1

abbrev pub decreases-count_quarters : goal.decreases-count_quarters
decreases-count_quarters g l = 2 * l.sq.level
