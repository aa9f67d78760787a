use Rattle.std.proofs.Common.{◌≡◌, Err}
use Rattle.std.proofs.result.Match.{err_is}
use Rattle.pipe_requests.specs.declared.name.Name.TheVariants as name
use Rattle.pipe_requests.proofs.AskLemmas.{bad_count}
use Rattle.pipe_requests.proofs.reading.read_write.Goals as goal

pub returns-in_err-one-clause-err : goal.returns-in_err-one-clause-err
returns-in_err-one-clause-err c =
    let is : c.from_residual.result ≡ Err c.in_err-one.field-0.0 = err_is _ _ c.from_residual.ensures.1 in
    rw is (bad_count name.Write _ _ 1 c.in_err-one.ensures.err (λ fits. fits))
