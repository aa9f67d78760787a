use Rattle.std.proofs.Common.{w64}
use Rattle.leaf_kernels.proofs.Moves.{from_right_cells}
use Rattle.leaf_kernels.proofs.rows.from_right.Goals as goal

pub returns : goal.returns
returns c = from_right_cells w64 4 c.args.rows c.fits-rows.0 c.fits-rows.1
