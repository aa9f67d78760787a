use Rattle.std.proofs.Common.{◌+◌, [], get_or}
use Rattle.leaf_kernels.specs.Rows.{row_at}
use Rattle.leaf_kernels.proofs.Squares.{left_leaves, lower_row, right_leaves, rows_of_quarters, stacked, upper_row}
use Rattle.leaf_kernels.proofs.leaves.rows_of.Goals as goal

pub returns : goal.returns
returns c =
    let low = c.by_lane.result in
    let high = c.by_lane-2.result in
    let upper = c.bands.result in
    let lower = c.bands-2.result in
    let upper_rows = upper_row low high upper lower c.by_lane.ensures c.by_lane-2.ensures in
    let lower_rows = lower_row low high upper lower c.by_lane.ensures c.by_lane-2.ensures in
    rows_of_quarters (stacked low high) c.args.quarters
    (left_leaves upper (get_or c.args.quarters 0 []) (λ y. row_at (stacked low high) y) upper_rows c.bands.ensures.left)
    (right_leaves upper (get_or c.args.quarters 1 []) (λ y. row_at (stacked low high) y) upper_rows c.bands.ensures.right)
    (left_leaves lower (get_or c.args.quarters 2 []) (λ y. row_at (stacked low high) (32 + y)) lower_rows c.bands-2.ensures.left)
    (right_leaves lower (get_or c.args.quarters 3 []) (λ y. row_at (stacked low high) (32 + y)) lower_rows c.bands-2.ensures.right)
