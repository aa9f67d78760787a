use Rattle.std.proofs.Common.{subst}
use Rattle.period_search.specs.Candidates.{AreSome}
use Rattle.period_search.specs.declared.candidates.Candidates.{Candidates}
use Rattle.period_search.proofs.NextCandidates.{next_of_divisors, none_behind}
use Rattle.period_search.proofs.candidates.Candidates.after.Goals as goal

pub returns-in-DivisorsOf-clause-next : goal.returns-in-DivisorsOf-clause-next
returns-in-DivisorsOf-clause-next c = rw c.in-DivisorsOf.is (next_of_divisors c.in-DivisorsOf.whole c.args.tried c.next_divisor.result c.next_divisor.ensures)

pub returns-in_default-2-clause-none : goal.returns-in_default-2-clause-none
returns-in_default-2-clause-none c =
    rw c.in-DivisorsOf.is (none_behind c.in-DivisorsOf.whole c.args.tried (subst (λ (candidates : Candidates). AreSome candidates) c.in-DivisorsOf.is c.requires) c.if-tried-whole.false)
