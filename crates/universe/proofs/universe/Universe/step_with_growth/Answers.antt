use Rattle.std.proofs.Common.{subst, sym}
use Rattle.table_core.specs.declared.shape.Shape.{Shape}
use Rattle.table_growth.specs.Retries.{IsWithinLimit}
use Rattle.universe.specs.Later.{IsAttempt, IsFullAtLimit}
use Rattle.universe.specs.declared.attempts.Attempt.{Attempt}
use Rattle.universe.proofs.Onward.{attempt_again, step_again}
use Rattle.universe.proofs.universe.Universe.step_with_growth.Goals as goal

pub retry-requires-clause-step : goal.retry-requires-clause-step
retry-requires-clause-step g c κs within =
    let at_exponent = subst (λ (a : Attempt). IsAttempt c.args.self a) c.in-Full.is c.retries.invariant.attempt in
    step_again c.requires at_exponent

pub retry-requires-clause-within : goal.retry-requires-clause-within
retry-requires-clause-within g c κs within =
    let at_exponent = subst (λ (a : Attempt). IsAttempt c.args.self a) c.in-Full.is c.retries.invariant.attempt in
    subst (λ (limit : Shape). IsWithinLimit limit c.in-Some.retry) (sym at_exponent.same.limit) c.in-Some.ensures.within

pub retries-preserved : goal.retries-preserved
retries-preserved g c =
    let at_exponent = subst (λ (a : Attempt). IsAttempt c.args.self a) c.in-Full.is c.retries.invariant.attempt in
    record { attempt = attempt_again c.in_ok-attempt-2.attempt at_exponent c.in_ok-attempt-2.ensures.ok; full = λ last. c.in_ok-attempt-2.ensures.full cc }

pub retries-smaller : goal.retries-smaller
retries-smaller g c = c.in-Some.ensures.fewer

pub returns-in_default-next-clause-full : goal.returns-in_default-next-clause-full
returns-in_default-next-clause-full g c = subst IsFullAtLimit c.in-Full.is (c.retries.invariant.full c.in_default-next.ensures.last)
