use Rattle.leaf_kernels.specs.Rows.{four_rows_plane}
use Rattle.leaf_kernels.specs.Sums.{number}
use Rattle.leaf_kernels.proofs.Adders.{carried_on}
use Rattle.leaf_kernels.proofs.count.Count.of_sums.Goals as goal

pub returns : goal.returns
returns c x y =
    carried_on (number (four_rows_plane c.args.first.ones x y)) (number (four_rows_plane c.args.second.ones x y)) (number (four_rows_plane c.args.third.ones x y))
    (number (four_rows_plane c.args.first.twos x y)) (number (four_rows_plane c.args.second.twos x y)) (number (four_rows_plane c.args.third.twos x y))
    _ _ _ _ _ _ _ _
    (c.of_three-ones.ensures x y) (c.of_three-twos.ensures x y) (c.of_two-carried.ensures x y) (c.of_two-high.ensures x y)
