use Rattle.std.proofs.Common.{arith}
use Rattle.std.proofs.lemmas.List.{get_or-map}
use Rattle.leaf_kernels.proofs.sixteen_rows.words_of.Goals as goal

pub returns : goal.returns
returns c row h = get_or-map (λ a. a) c.args.rows row 0 0 (omega arith)
