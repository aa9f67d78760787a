use Rattle.leaf_kernels.proofs.LaneNeighbours.{masked_cells, masked_count}
use Rattle.leaf_kernels.proofs.masks.Masks.count.Goals as goal

pub returns : goal.returns
returns c x lane inside =
    let masks = c.args.self.now in
    let falls = masks.are_diagonals.falls x lane in
    let rises = masks.are_diagonals.rises x lane in
    masked_count masks.outcomes.rule.neighbourhood c.args.above c.args.here c.args.below x lane _ _ _ _ _ _ _ _ _ _ inside
    (masked_cells _ _ _ _ _ (c.both.ensures x lane) falls (c.from_left.ensures x lane))
    (masked_cells _ _ _ _ _ (c.both-2.ensures x lane) rises (c.from_right.ensures x lane))
    (c.from_left-2.ensures x lane) (c.from_right-2.ensures x lane)
    (masked_cells _ _ _ _ _ (c.both-3.ensures x lane) rises (c.from_left-3.ensures x lane))
    (masked_cells _ _ _ _ _ (c.both-4.ensures x lane) falls (c.from_right-3.ensures x lane))
    (c.of_three-upper.ensures x lane) (c.of_two-beside.ensures x lane) (c.of_three-lower.ensures x lane) (c.of_sums.ensures x lane)
