use Rattle.std.proofs.Common.{◌≡◌, length}
use Rattle.job_queues.specs.Shares.{left_of}
use Rattle.worker_split.specs.Rounds.{CanSolve}
use Rattle.worker_split.specs.Work.{Continues}
use Rattle.worker_split.proofs.serving.other_share.Given as goal

abbrev pub invariant-loop-job : goal.invariant-loop-job
invariant-loop-job g l =
    (l.other.count ≡ length l.shared.jobs.now) × CanSolve l.shared.jobs.now l.at l.solver × Continues 1 l.initial.at l.at l.initial.solver.tally l.solver.tally

abbrev pub decreases-loop-job : goal.decreases-loop-job
decreases-loop-job g l = length (left_of l.other)
