use Rattle.std.proofs.Common.{arith}
use Rattle.leaf_kernels.proofs.SixteenRows.{centre_as_leaf}
use Rattle.leaf_kernels.proofs.sixteen_rows.centre_of_rows.Goals as goal

pub returns : goal.returns
returns c = centre_as_leaf c.args.rows c.words_of.result c.transpose-leaves.result (omega arith) c.words_of.ensures c.transpose-leaves.ensures
