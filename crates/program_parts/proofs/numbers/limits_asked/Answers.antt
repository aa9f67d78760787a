use Rattle.std.proofs.Common.{◌≡◌, Err, codes, refl, subst, sym, inl, inr}
use Rattle.std.proofs.result.Match.{err_is}
use Rattle.program_parts.specs.Values.{IsPairNumber, IsWorkerNumber}
use Rattle.program_parts.proofs.AskedWords.{value_by}
use Rattle.program_parts.proofs.numbers.limits_asked.Goals as goal

pub returns-in_err-pairs-clause-err : goal.returns-in_err-pairs-clause-err
returns-in_err-pairs-clause-err c = λ form words are.
    let value = value_by form words c.args.matches.now are (codes "nodes") in
    let is : c.from_residual.result ≡ Err c.in_err-pairs.field-0.0 = err_is _ _ c.from_residual.ensures.1 in
    rw (is, c.in_err-pairs.ensures.err.0)
    (inl (refl, λ pairs fit. c.in_err-pairs.ensures.err.1 pairs (subst (λ given. IsPairNumber given pairs) (sym value) fit)))

pub returns-in_err-workers-clause-err : goal.returns-in_err-workers-clause-err
returns-in_err-workers-clause-err c = λ form words are.
    let value = value_by form words c.args.matches.now are (codes "workers") in
    let is : c.from_residual-in_err-workers.result ≡ Err c.in_err-workers.field-0.0 = err_is _ _ c.from_residual-in_err-workers.ensures.1 in
    rw (is, c.in_err-workers.ensures.err.0)
    (inr (refl, λ workers fit. c.in_err-workers.ensures.err.1 workers (subst (λ given. IsWorkerNumber given workers) (sym value) fit)))

pub returns-clause-ok : goal.returns-clause-ok
returns-clause-ok c = λ form words are.
    let value = value_by form words c.args.matches.now are in
    record {
      pairs = subst (λ given. IsPairNumber given c.in_ok-pairs.pairs) (value (codes "nodes")) c.in_ok-pairs.ensures.ok;
      workers = subst (λ given. IsWorkerNumber given c.in_ok-workers.workers) (value (codes "workers")) c.in_ok-workers.ensures.ok;
    }
