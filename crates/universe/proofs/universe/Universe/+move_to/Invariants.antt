use Rattle.std.proofs.Common.{◌+◌, ◌-◌, ◌*◌}
use Rattle.universe.specs.Cells.{limit_of}
use Rattle.universe.specs.Tables.{pairs_in}
use Rattle.universe.proofs.universe.Universe.+move_to.Given as goal

abbrev pub decreases-move_to : goal.decreases-move_to
decreases-move_to g l = 2 * (limit_of l.self - pairs_in l.other) + 1

abbrev pub decreases-enlarge_and_move : goal.decreases-enlarge_and_move
decreases-enlarge_and_move g l = 2 * (limit_of l.self - pairs_in l.other)
