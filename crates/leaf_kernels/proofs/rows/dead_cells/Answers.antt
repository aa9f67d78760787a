use Rattle.std.proofs.Common.{w64}
use Rattle.leaf_kernels.proofs.Lanes.{cells-not}
use Rattle.leaf_kernels.proofs.rows.dead_cells.Goals as goal

pub returns : goal.returns
returns c = cells-not w64 4 c.args.rows c.fits-rows.0 c.fits-rows.1
