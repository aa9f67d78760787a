use Rattle.plane.proofs.LeafHalves.{columns_of_left, columns_of_right}
use Rattle.plane.proofs.four_leaves.middle_columns.Goals as goal

pub returns-clause-left : goal.returns-clause-left
returns-clause-left c = columns_of_left c.args.left c.args.right

pub returns-clause-right : goal.returns-clause-right
returns-clause-right c = columns_of_right c.args.left c.args.right
