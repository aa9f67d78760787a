use Rattle.std.proofs.Common.{◌-◌, ◌^◌}
use Rattle.period_search.proofs.SearchSteps.{HasTried}
use Rattle.period_search.proofs.search.least_period.Given as goal

abbrev pub invariant-loop-generations : goal.invariant-loop-generations
invariant-loop-generations g l = HasTried l.candidates l.fn.session l.session l.tried

abbrev pub decreases-loop-generations : goal.decreases-loop-generations
decreases-loop-generations g l = 2 ^ 64 - l.tried
