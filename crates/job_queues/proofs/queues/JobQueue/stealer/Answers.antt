use Rattle.job_queues.proofs.Pieces.{forks}
use Rattle.job_queues.proofs.queues.JobQueue.stealer.Goals as goal

pub another-pass-requires : goal.another-pass-requires
another-pass-requires c = forks _ _
