use Rattle.leaf_kernels.proofs.LaneNeighbours.{sum_across, within}
use Rattle.leaf_kernels.proofs.sum.Sum.across.Goals as goal

pub returns : goal.returns
returns c = λ x lane inside.
    sum_across _ _ _ _ _ _ (c.of_three.ensures x lane)
    (within _ _ _ inside (c.from_left.ensures x lane))
    (within _ _ _ inside (c.from_right.ensures x lane))
