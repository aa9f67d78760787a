use Rattle.std.proofs.Common.{◌≡◌, Err}
use Rattle.std.proofs.result.Match.{err_is}
use Rattle.pipe_requests.proofs.NumberLemmas.{minus_begins, no_number_behind, no_plain_number}
use Rattle.pipe_requests.proofs.numbers.signed.Goals as goal

pub returns-in_err-size-in-Some-clause-err : goal.returns-in_err-size-in-Some-clause-err
returns-in_err-size-in-Some-clause-err c =
    let is : c.from_residual.result ≡ Err c.in_err-size-in-Some.field-0.0 = err_is _ _ c.from_residual.ensures.1 in
    rw is (no_number_behind _ _ _ (minus_begins _ _ c.in-Some.ensures.cases.0 c.in-Some.ensures.cases.1) c.in_err-size-in-Some.ensures.err)

pub returns-in-None-clause-err : goal.returns-in-None-clause-err
returns-in-None-clause-err c = no_plain_number _ _ c.in-None.ensures.cases c.size-in-None.ensures.err
