use Rattle.std.proofs.Common.{refl}
use Rattle.pattern_writers.proofs.BlocksOut.{passed_on}
use Rattle.pattern_writers.proofs.rle_text.layout.end_line.Goals as goal

pub returns-in_err-put-clause-failure : goal.returns-in_err-put-clause-failure
returns-in_err-put-clause-failure g c =
    passed_on _ _ _ c.in_err-put.field-0.0 _ refl c.from_residual.ensures.0 c.from_residual.ensures.1 c.in_err-put.ensures.failure
