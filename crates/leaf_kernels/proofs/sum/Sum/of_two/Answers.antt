use Rattle.std.proofs.Common.{w64}
use Rattle.leaf_kernels.proofs.Adders.{half_adder}
use Rattle.leaf_kernels.proofs.sum.Sum.of_two.Goals as goal

pub returns : goal.returns
returns c = half_adder w64 4 c.args.first c.args.second c.fits-first.0 c.fits-second.0
