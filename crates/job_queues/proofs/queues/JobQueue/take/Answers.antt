use Rattle.job_queues.proofs.Pieces.{finds, taken_first, taken_next, taken_of_share, takes}
use Rattle.job_queues.proofs.queues.JobQueue.take.Goals as goal

pub pop_as-requires-clause-fifo : goal.pop_as-requires-clause-fifo
pop_as-requires-clause-fifo c = λ _. takes _ _

pub pop_as-requires-clause-empty : goal.pop_as-requires-clause-empty
pop_as-requires-clause-empty c = finds _ _

pub returns-clause-of_share : goal.returns-clause-of_share
returns-clause-of_share c = taken_of_share c.pop_as.result _ _ c.pop_as.ensures.rule

pub returns-clause-first : goal.returns-clause-first
returns-clause-first c = taken_first c.pop_as.result _ _ c.pop_as.ensures.rule

pub returns-clause-next : goal.returns-clause-next
returns-clause-next c = taken_next c.pop_as.result _ _ c.pop_as.ensures.rule
