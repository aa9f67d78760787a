use Rattle.std.proofs.Common.{◌≡◌, ◌∙◌, Err, rules}
use Rattle.plane.specs.Fault.{placeless}
use Rattle.plane.specs.declared.refusal.Refusal.TheVariants.{NoMemory, TooFar}
use Rattle.plane.proofs.SentErrors.{sent_on}
use Rattle.engine.specs.Refused.{IsRefused}
use Rattle.period_program.proofs.LastSessions.{is_last, no_memory, not_advanced, not_opened, too_far}
use Rattle.period_program.proofs.last_session.last_session.Goals as goal

pub returns-in_err-session-clause-refused : goal.returns-in_err-session-clause-refused
returns-in_err-session-clause-refused g c =
    sent_on (IsRefused c.args.bytes.now c.args.run.now) c.from_residual.result c.in_err-session.field-0.0 c.from_residual.ensures.1 (not_opened c.args.bytes.now c.args.run.now _ c.in_err-session.ensures.refused)

pub returns-in_err-bounds-clause-refused : goal.returns-in_err-bounds-clause-refused
returns-in_err-bounds-clause-refused g c =
    let is : c.from_residual-in_err-bounds.result ≡ Err (placeless NoMemory) = search rules in
    rw is (no_memory c.args.bytes.now c.args.run.now {session = c.in_ok-session.session} c.in_ok-session.ensures.ok)

pub returns-in_err-reach-clause-refused : goal.returns-in_err-reach-clause-refused
returns-in_err-reach-clause-refused g c =
    let is : c.from_residual-in_err-reach.result ≡ Err (placeless TooFar) = search rules in
    rw is (too_far c.args.bytes.now c.args.run.now {session = c.in_ok-session.session} c.in_ok-session.ensures.ok c.in_ok-bounds.bounds c.in_ok-bounds.ensures.ok c.generation.result
    (c.generation.ensures ∙ c.in_ok-bounds.ensures.same.generation) c.in_err-reach.ensures.too_far.1)

pub returns-in_err-advance-clause-refused : goal.returns-in_err-advance-clause-refused
returns-in_err-advance-clause-refused g c =
    sent_on (IsRefused c.args.bytes.now c.args.run.now) c.from_residual-in_err-advance.result (placeless c.in_err-advance.field-0.0) c.from_residual-in_err-advance.ensures.1
    (not_advanced c.args.bytes.now c.args.run.now {session = c.in_ok-session.session} c.in_ok-session.ensures.ok c.in_ok-bounds.bounds c.in_ok-bounds.ensures.ok c.generation.result
    (c.generation.ensures ∙ c.in_ok-bounds.ensures.same.generation) c.in_ok-reach.ensures.ok.0 {asked = c.bounds.new.self} {there = c.advance.new.self} c.in_err-advance.field-0.0 c.in_ok-bounds.ensures.same c.in_err-advance.ensures.refused)

pub returns-clause-ok : goal.returns-clause-ok
returns-clause-ok g c =
    is_last c.args.bytes.now c.args.run.now {session = c.in_ok-session.session} c.in_ok-session.ensures.ok c.in_ok-bounds.bounds c.in_ok-bounds.ensures.ok c.generation.result
    (c.generation.ensures ∙ c.in_ok-bounds.ensures.same.generation) c.in_ok-reach.ensures.ok.0 {asked = c.bounds.new.self} {there = c.advance.new.self} c.in_ok-bounds.ensures.same c.in_ok-advance.ensures.ok
