use Rattle.std.proofs.Common.{◌+◌, ◌*◌}
use Rattle.viewport.proofs.rows.+first_row_below.Given as goal

abbrev pub decreases-first_row_below : goal.decreases-first_row_below
decreases-first_row_below g l = 2 * l.sq.level

abbrev pub decreases-first_row_beside : goal.decreases-first_row_beside
decreases-first_row_beside g l = 2 * l.left.level + 1
