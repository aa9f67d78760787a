use Rattle.period_search.proofs.LeastDivisors.{first_bound, last_found, one_less}
use Rattle.period_search.proofs.divisors.last_divisor.Goals as goal

pub loop-divisor-init : goal.loop-divisor-init
loop-divisor-init c = first_bound c.args.whole c.args.most c.requires

pub loop-divisor-preserved : goal.loop-divisor-preserved
loop-divisor-preserved c = one_less c.args.whole c.args.most c.loop-divisor.divisor c.loop-divisor.invariant c.loop-divisor-test.true

pub returns : goal.returns
returns c = last_found c.args.whole c.args.most c.loop-divisor.divisor c.loop-divisor.invariant c.loop-divisor-test.false
