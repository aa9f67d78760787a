use Rattle.std.proofs.Common.{w64}
use Rattle.leaf_kernels.proofs.Lanes.{cells-and}
use Rattle.leaf_kernels.proofs.rows.both.Goals as goal

pub returns : goal.returns
returns c = cells-and w64 4 c.args.first c.args.second c.fits-first.0 c.fits-second.0
