use Rattle.std.proofs.Common.{◌+◌, ◌*◌}
use Rattle.node_sweep.proofs.ranks.Ranking.+rank.Given as goal

abbrev pub decreases-rank : goal.decreases-rank
decreases-rank l = 2 * l.height + 1

abbrev pub decreases-rank_of_part : goal.decreases-rank_of_part
decreases-rank_of_part l = 2 * l.height
