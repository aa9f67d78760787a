use Rattle.std.proofs.Common.{◌≡◌, Err}
use Rattle.std.proofs.result.Match.{err_is}
use Rattle.pipe_requests.proofs.NumberLemmas.{no_within}
use Rattle.pipe_requests.proofs.numbers.limited.Goals as goal

pub returns-in_err-value-clause-err : goal.returns-in_err-value-clause-err
returns-in_err-value-clause-err c =
    let is : c.from_residual.result ≡ Err c.in_err-value.field-0.0 = err_is _ _ c.from_residual.ensures.1 in
    rw is (no_within _ _ _ _ c.in_err-value.ensures.err)
