use Rattle.std.proofs.Common.{◌≡◌, Err, refl}
use Rattle.std.proofs.result.Match.{err_is}
use Rattle.plane.specs.Fault.{placeless}
use Rattle.period_program.proofs.Findings.{ends_well, line_failed, not_found, refused_at_once}
use Rattle.period_program.proofs.finding.find.Goals as goal

pub returns-in_err-session : goal.returns-in_err-session
returns-in_err-session g c =
    let is : c.from_residual.result ≡ Err c.in_err-session.field-0.0 = err_is _ _ c.from_residual.ensures.1 in
    rw is (refused_at_once c.args.bytes.now c.args.search.now _ refl c.in_err-session.field-0.0 c.in_err-session.ensures.refused)

pub returns-in_err-found : goal.returns-in_err-found
returns-in_err-found g c =
    let is : c.from_residual-in_err-found.result ≡ Err (placeless c.in_err-found.field-0.0) = err_is _ _ c.from_residual-in_err-found.ensures.1 in
    rw is (not_found c.args.bytes.now c.args.search.now _ {session = c.in_ok-session.session} c.in_ok-session.ensures.ok {there = c.least_period.new.session} refl c.in_err-found.field-0.0 c.in_err-found.ensures.refused)

pub returns-in_err-write_period_line : goal.returns-in_err-write_period_line
returns-in_err-write_period_line g c =
    let is : c.from_residual-in_err-write_period_line.result ≡ Err (placeless c.in_err-write_period_line.field-0.0) = err_is _ _ c.from_residual-in_err-write_period_line.ensures.1 in
    let refused = c.in_err-write_period_line.ensures.failure.refused in
    rw is (line_failed c.args.bytes.now c.args.search.now _ {session = c.in_ok-session.session} c.in_ok-session.ensures.ok c.in_ok-found.found c.in_ok-found.ensures.answer c.in_err-write_period_line.field-0.0 refused.0 refused.1
    c.in_err-write_period_line.ensures.beginning)

pub returns : goal.returns
returns g c =
    ends_well c.args.bytes.now c.args.search.now _ {session = c.in_ok-session.session} c.in_ok-session.ensures.ok c.in_ok-found.found c.in_ok-found.ensures.answer
    c.in_ok-write_period_line.ensures.failure.unfailed c.in_ok-write_period_line.ensures.written
