use Rattle.std.proofs.Common.{refl, arith, w64}
use Rattle.std.proofs.lemmas.Simd.{get_or_narrower, below_from_Fits}
use Rattle.leaf_kernels.proofs.leaves.bytes_of_words.Goals as goal

pub returns : goal.returns
returns c word place h k = get_or_narrower 18446744073709551616 8 256 64 c.args.words word place refl (below_from_Fits w64 c.args.words c.fits-words.1) k (omega arith)
