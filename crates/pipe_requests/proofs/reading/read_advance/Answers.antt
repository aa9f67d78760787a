use Rattle.std.proofs.Common.{◌≡◌, Err, ap, length, suc}
use Rattle.std.proofs.result.Match.{err_is}
use Rattle.pipe_requests.specs.Numbers.{IsUnsigned}
use Rattle.pipe_requests.specs.declared.name.Name.TheVariants as name
use Rattle.pipe_requests.proofs.AskLemmas.{bad_count, bad_number, no_number}
use Rattle.pipe_requests.proofs.reading.read_advance.Goals as goal

pub returns-in_err-one-clause-err : goal.returns-in_err-one-clause-err
returns-in_err-one-clause-err c =
    let is : c.from_residual.result ≡ Err c.in_err-one.field-0.0 = err_is _ _ c.from_residual.ensures.1 in
    rw is (bad_count name.Advance _ _ 1 c.in_err-one.ensures.err (λ fits. fits))

pub returns-in_err-generations-clause-err : goal.returns-in_err-generations-clause-err
returns-in_err-generations-clause-err c =
    let is : c.from_residual-in_err-generations.result ≡ Err c.in_err-generations.field-0.0 =
    err_is _ _ c.from_residual-in_err-generations.ensures.1 in
    let words = c.in_ok-one.ensures.ok in
    rw is (bad_number name.Advance _ _ c.in_err-generations.ensures.err.0
    (ap (λ behind. suc (length behind)) words) (λ other. cc)
    (no_number IsUnsigned _ _ words c.in_err-generations.ensures.err.1))
