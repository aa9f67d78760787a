use Rattle.std.proofs.Common.{arith}
use Rattle.leaf_kernels.proofs.SixteenRows.{rows_around}
use Rattle.leaf_kernels.proofs.sixteen_rows.surround.Goals as goal

pub returns : goal.returns
returns c = rows_around c.args.rows c.words_of.result c.fits-rows.0 c.fits-rows.1 (omega arith) c.words_of.ensures
