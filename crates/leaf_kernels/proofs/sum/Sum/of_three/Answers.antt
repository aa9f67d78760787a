use Rattle.std.proofs.Common.{w64}
use Rattle.leaf_kernels.proofs.Adders.{full_adder}
use Rattle.leaf_kernels.proofs.sum.Sum.of_three.Goals as goal

pub returns : goal.returns
returns c = full_adder w64 4 c.args.first c.args.second c.args.third c.fits-first.0 c.fits-second.0 c.fits-third.0
