use Rattle.plane.proofs.Cuts.{and_left}
use Rattle.plane.specs.Square.{spans}
use Rattle.leaf_kernels.proofs.LaneNeighbours.{moore_count}
use Rattle.leaf_kernels.proofs.moore.count.Goals as goal

pub returns : goal.returns
returns c x lane inside =
    let in_x = and_left (spans 64 x) (spans 4 lane) inside in
    moore_count c.args.above c.args.here c.args.below x lane _ _ _ _ _ _ inside (c.across.ensures x lane in_x)
    (c.from_left.ensures x lane) (c.from_right.ensures x lane) (c.of_two-beside.ensures x lane) (c.across-2.ensures x lane in_x) (c.of_sums.ensures x lane)
