use Rattle.period_search.proofs.LeastDivisors.{HasNoneBetween}
use Rattle.period_search.proofs.divisors.next_divisor.Given as goal

abbrev pub invariant-loop-divisor : goal.invariant-loop-divisor
invariant-loop-divisor l = HasNoneBetween l.whole l.tried l.divisor
