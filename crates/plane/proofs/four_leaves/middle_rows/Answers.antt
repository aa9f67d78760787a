use Rattle.std.proofs.Common.{arith}
use Rattle.plane.proofs.LeafHalves.{rows_of_above, rows_of_below}
use Rattle.plane.proofs.four_leaves.middle_rows.Goals as goal

pub returns-clause-upper : goal.returns-clause-upper
returns-clause-upper c = rows_of_above c.args.above c.args.below

pub returns-clause-lower : goal.returns-clause-lower
returns-clause-lower c = rows_of_below c.args.above c.args.below (omega arith)
