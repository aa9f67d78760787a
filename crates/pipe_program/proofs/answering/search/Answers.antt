use Rattle.std.proofs.Common.{◌≡◌, Err}
use Rattle.std.proofs.result.Match.{err_is}
use Rattle.plane.specs.Fault.{placeless}
use Rattle.pipe_program.proofs.SearchedPatterns.{limit_ended, search_ended}
use Rattle.pipe_program.proofs.StoppedPatterns.{limit_stopped, stopped}
use Rattle.pipe_program.proofs.answering.search.Goals as goal

pub returns-in_err-least_period-clause-searches : goal.returns-in_err-least_period-clause-searches
returns-in_err-least_period-clause-searches g c = λ pairs limit.
    let refusal = c.in_err-least_period.field-0.0 in
    let is : c.from_residual.result ≡ Err (placeless refusal) = err_is _ _ c.from_residual.ensures.1 in
    rw is (stopped pairs c.args.candidates c.args.session.now c.least_period.new.session refusal limit c.in_err-least_period.ensures.refused)

pub returns-in_err-least_period-clause-limit : goal.returns-in_err-least_period-clause-limit
returns-in_err-least_period-clause-limit g c = λ pairs limit.
    limit_stopped pairs c.args.candidates c.args.session.now c.least_period.new.session c.in_err-least_period.field-0.0 limit c.in_err-least_period.ensures.refused

pub returns-clause-searches : goal.returns-clause-searches
returns-clause-searches g c = λ pairs limit.
    search_ended pairs c.args.candidates c.args.session.now c.least_period.new.session c.in_ok-least_period.field-0 c.in_ok-least_period.ensures.closed c.in_ok-least_period.ensures.answer
    c.in_ok-least_period.ensures.later c.in_ok-least_period.ensures.ended

pub returns-clause-limit : goal.returns-clause-limit
returns-clause-limit g c = λ pairs limit.
    limit_ended pairs c.args.candidates c.args.session.now c.least_period.new.session c.in_ok-least_period.field-0 limit c.in_ok-least_period.ensures.later c.in_ok-least_period.ensures.ended
