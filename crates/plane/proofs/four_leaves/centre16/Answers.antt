use Rattle.plane.proofs.FourLeaves.{centre_of_leaves}
use Rattle.plane.proofs.four_leaves.centre16.Goals as goal

pub returns : goal.returns
returns c =
    centre_of_leaves c.args.leaves c.middle_rows-left.result c.middle_rows-right.result c.middle_columns.result
    c.middle_rows-left.ensures.upper c.middle_rows-left.ensures.lower c.middle_rows-right.ensures.upper c.middle_rows-right.ensures.lower
    c.middle_columns.ensures.left c.middle_columns.ensures.right
