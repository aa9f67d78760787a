use Rattle.std.proofs.Common.{◌≡◌, Err, ap}
use Rattle.std.proofs.result.Match.{err_is}
use Rattle.std.specs.Option.{option_copied}
use Rattle.pipe_requests.proofs.ReadingLemmas.{two_or_more}
use Rattle.pipe_requests.proofs.reading.read_rule.Goals as goal

pub returns-in_err-one-in-Some-clause-err : goal.returns-in_err-one-in-Some-clause-err
returns-in_err-one-in-Some-clause-err c =
    let is : c.from_residual.result ≡ Err c.in_err-one-in-Some.field-0.0 = err_is _ _ c.from_residual.ensures.1 in
    let has = c.in_err-one-in-Some.ensures.err in
    rw is (has.0, two_or_more _ _ (ap option_copied c.in-Some.is) has.1)
