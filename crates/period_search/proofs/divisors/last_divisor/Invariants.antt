use Rattle.period_search.proofs.LeastDivisors.{IsLastBelow}
use Rattle.period_search.proofs.divisors.last_divisor.Given as goal

abbrev pub invariant-loop-divisor : goal.invariant-loop-divisor
invariant-loop-divisor l = IsLastBelow l.whole l.most l.divisor

abbrev pub decreases-loop-divisor : goal.decreases-loop-divisor
decreases-loop-divisor l = l.divisor
