use Rattle.std.proofs.Common.{subst, arith}
use Rattle.period_search.proofs.LeastDivisors.{HasNoneBetween, found_above, none_more, the_whole}
use Rattle.period_search.proofs.divisors.next_divisor.Goals as goal

pub returns-then-whole-divisor : goal.returns-then-whole-divisor
returns-then-whole-divisor c =
    let last = c.last_divisor.ensures in
    let from = c.loop-divisor.auto.divisor in
    let more = c.loop-divisor-test.true in
    found_above c.args.whole c.args.tried c.loop-divisor.divisor c.last_divisor.result last.divides.0 (omega arith) (omega arith) (omega arith) c.loop-divisor.invariant last last.divides.1

pub loop-divisor-preserved : goal.loop-divisor-preserved
loop-divisor-preserved c = none_more c.args.whole c.args.tried c.loop-divisor.divisor c.loop-divisor.invariant c.if-whole-divisor-eq0.false

pub returns : goal.returns
returns c =
    let less = c.requires in
    the_whole c.args.whole c.args.tried less (subst (HasNoneBetween c.args.whole c.args.tried) (let end = c.loop-divisor-test.false in let within = c.loop-divisor.auto.divisor-end in omega arith) c.loop-divisor.invariant)
