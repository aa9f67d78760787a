use Rattle.std.proofs.Common.{◌≡◌, ◌+◌, ◌*◌, ◌∙◌, ap, arith, pos}
use Rattle.rule_text.specs.CountRule.{lives}
use Rattle.rule_text.specs.declared.neighbourhood.Neighbourhood.TheVariants.{Moore}
use Rattle.plane.specs.Plane.{live_neighbours}
use Rattle.plane.specs.Square.{spans}
use Rattle.plane.proofs.Cuts.{and_left}
use Rattle.leaf_kernels.specs.Life.{life}
use Rattle.leaf_kernels.specs.Rows.{four_rows_plane, lane_plane}
use Rattle.leaf_kernels.specs.Sums.{number}
use Rattle.leaf_kernels.proofs.Neighbours.{few_counted}
use Rattle.leaf_kernels.proofs.LaneNeighbours.{eight_count}
use Rattle.leaf_kernels.proofs.LifeCells.{life_cell, life_rows}
use Rattle.leaf_kernels.proofs.life.LifeNextCells.next_cells.Goals as goal

pub returns : goal.returns
returns c x lane inside =
    let in_x = and_left (spans 64 x) (spans 4 lane) inside in
    let cell = four_rows_plane c.args.here x lane in
    let one = four_rows_plane c.of_three-ones.result.ones x lane in
    let carry = four_rows_plane c.of_three-ones.result.twos x lane in
    let two = four_rows_plane c.of_three-twos.result.ones x lane in
    let four = four_rows_plane c.of_three-twos.result.twos x lane in
    let counted : (number one + 2 * number carry) + 2 * (number two + 2 * number four) ≡ live_neighbours Moore (lane_plane c.args.above c.args.here c.args.below lane) x (pos 0) =
    eight_count c.args.above c.args.here c.args.below x lane _ _ _ _ _ _ _ _ _ _ _ _ inside (c.across-upper.ensures x lane in_x)
    (c.from_left.ensures x lane) (c.from_right.ensures x lane) (c.of_two-beside.ensures x lane) (c.across-lower.ensures x lane in_x)
    (c.of_three-ones.ensures x lane) (c.of_three-twos.ensures x lane) in
    life_rows c.of_three-ones.result.ones c.of_three-ones.result.twos c.of_three-twos.result.ones c.of_three-twos.result.twos c.dead_cells.result c.args.here
    (omega arith) (omega arith) (omega arith) (omega arith) (omega arith) c.dead_cells.ensures x lane inside
    ∙ life_cell one carry two four cell (few_counted Moore (lane_plane c.args.above c.args.here c.args.below lane) x (pos 0) _ counted)
    ∙ ap (lives life cell) counted
