use Rattle.std.proofs.Common.{◌+◌, ◌*◌}
use Rattle.squares.specs.Book.{nth}
use Rattle.pattern_writers.proofs.mc_text.listing.+number.Given as goal

abbrev pub decreases-number : goal.decreases-number
decreases-number g l = 2 * l.sq.level

abbrev pub decreases-numbers : goal.decreases-numbers
decreases-numbers g l = 2 * (nth l.squares 0).level + 1
