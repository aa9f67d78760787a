use Rattle.std.proofs.Common.{subst}
use Rattle.universe.specs.Later.{IsAttempt}
use Rattle.universe.specs.declared.attempts.Attempt.{Attempt}
use Rattle.universe.proofs.Halves.{ok_then}
use Rattle.universe.proofs.Onward.{attempt_again, step_again}
use Rattle.universe.proofs.universe.Universe.step_enlarged.Goals as goal

pub step_copied-requires-2-clause-step : goal.step_copied-requires-2-clause-step
step_copied-requires-2-clause-step g c κs within =
    step_again c.requires.step (subst (λ (a : Attempt). IsAttempt c.args.self a) c.in-Full.is c.in_ok-done.ensures)

pub returns : goal.returns
returns g c =
    let again = subst (λ (a : Attempt). IsAttempt c.args.self a) c.in-Full.is c.in_ok-done.ensures in
    ok_then _ _ c.step_copied-2.result (λ attempt is. attempt_again attempt again is) c.step_copied-2.ensures
