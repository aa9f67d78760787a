use Rattle.std.proofs.Common.{subst}
use Rattle.plane.proofs.SentErrors.{sent_on}
use Rattle.plane.specs.declared.refusal.Refusal.TheVariants.{NoMemory}
use Rattle.universe.specs.Advances.{IsAdvance}
use Rattle.universe.proofs.Advancing.{not_stuck_at_once}
use Rattle.universe.proofs.Halves.{memory-full}
use Rattle.universe.proofs.universe.Universe.after.Goals as goal

pub returns-clause-full : goal.returns-clause-full
returns-clause-full g c = λ _. record {
  there = c.in-Stuck.there;
  done = c.in-Stuck.done;
  stuck = subst (IsAdvance c.args.self c.args.generations) c.in-Stuck.is c.in_ok-later.ensures.ok;
}

pub returns-in-Done-clause-ok : goal.returns-in-Done-clause-ok
returns-in-Done-clause-ok g c = subst (IsAdvance c.args.self c.args.generations) c.in-Done.is c.in_ok-later.ensures.ok

pub returns-in_err-later-clause-full : goal.returns-in_err-later-clause-full
returns-in_err-later-clause-full g c =
    sent_on _ c.from_residual.result NoMemory c.from_residual.ensures.1 (λ full. absurd (memory-full full))

pub returns-clause-no_step : goal.returns-clause-no_step
returns-clause-no_step g c = λ none.
    absurd (not_stuck_at_once c.args.self c.in-Stuck.there c.in-Stuck.done _ (c.in_ok-later.ensures.no_step none) c.in-Stuck.is)
