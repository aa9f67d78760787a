use Rattle.std.proofs.Common.{w64}
use Rattle.leaf_kernels.proofs.Moves.{from_left_cells}
use Rattle.leaf_kernels.proofs.rows.from_left.Goals as goal

pub returns : goal.returns
returns c = from_left_cells w64 4 c.args.rows c.fits-rows.0
