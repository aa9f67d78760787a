use Rattle.leaf_kernels.specs.Rows.{rows_plane, sixteen_rows_plane}
use Rattle.leaf_kernels.proofs.SixteenRows.{generation_in_middle}
use Rattle.leaf_kernels.proofs.sixteen_rows.next_rows.Goals as goal

pub returns : goal.returns
returns c =
    generation_in_middle c.args.rule.now (sixteen_rows_plane c.args.rows) (rows_plane c.surround.result) (rows_plane c.later_rows.result) (sixteen_rows_plane c.middle_rows.result)
    c.surround.ensures c.later_rows.ensures c.middle_rows.ensures
