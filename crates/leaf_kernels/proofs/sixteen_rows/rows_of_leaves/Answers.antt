use Rattle.leaf_kernels.proofs.SixteenRows.{leaves_as_rows}
use Rattle.leaf_kernels.proofs.sixteen_rows.rows_of_leaves.Goals as goal

pub returns : goal.returns
returns c =
    leaves_as_rows c.args.leaves c.first_cells.result c.stacked.result c.transpose-upper.result c.transpose-lower.result
    c.transpose-upper.ensures c.transpose-lower.ensures c.stacked.ensures.upper c.stacked.ensures.lower c.first_cells.ensures
