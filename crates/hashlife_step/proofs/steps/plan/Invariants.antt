use Rattle.hashlife_step.proofs.Planned.{IsPlanned}
use Rattle.hashlife_step.proofs.steps.plan.Given as goal

abbrev pub invariant-loop-exponent : goal.invariant-loop-exponent
invariant-loop-exponent l = IsPlanned l.generations l.exponent l.exponents.items
