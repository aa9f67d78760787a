use Rattle.std.proofs.Common.{w64}
use Rattle.leaf_kernels.proofs.Choices.{selected_cells}
use Rattle.leaf_kernels.proofs.rows.select.Goals as goal

pub returns : goal.returns
returns c = selected_cells w64 4 c.args.bit c.args.dead c.args.difference c.fits-bit.0 c.fits-dead.0 c.fits-difference.0
