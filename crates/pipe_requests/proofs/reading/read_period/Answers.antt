use Rattle.std.proofs.Common.{◌≡◌, Err, ◌^◌, ap, length, suc}
use Rattle.std.proofs.result.Match.{err_is}
use Rattle.pipe_requests.specs.Numbers.{IsWithin}
use Rattle.pipe_requests.specs.declared.name.Name.TheVariants as name
use Rattle.pipe_requests.proofs.AskLemmas.{bad_count, bad_number, no_number}
use Rattle.pipe_requests.proofs.reading.read_period.Goals as goal

pub returns-in_err-one-clause-err : goal.returns-in_err-one-clause-err
returns-in_err-one-clause-err c =
    let is : c.from_residual.result ≡ Err c.in_err-one.field-0.0 = err_is _ _ c.from_residual.ensures.1 in
    rw is (bad_count name.Period _ _ 1 c.in_err-one.ensures.err (λ fits. fits))

pub returns-in_err-most-clause-err : goal.returns-in_err-most-clause-err
returns-in_err-most-clause-err c =
    let is : c.from_residual-in_err-most.result ≡ Err c.in_err-most.field-0.0 = err_is _ _ c.from_residual-in_err-most.ensures.1 in
    let words = c.in_ok-one.ensures.ok in
    rw is (bad_number name.Period _ _ c.in_err-most.ensures.err.0
    (ap (λ behind. suc (length behind)) words) (λ other. cc)
    (no_number (IsWithin 1 (2 ^ 32)) _ _ words c.in_err-most.ensures.err.1))
