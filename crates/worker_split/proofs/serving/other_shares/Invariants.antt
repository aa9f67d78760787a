use Rattle.std.proofs.Common.{◌≡◌, length, All}
use Rattle.worker_split.specs.Rounds.{CanSolve}
use Rattle.worker_split.specs.Work.{Continues}
use Rattle.worker_split.proofs.serving.other_shares.Given as goal

abbrev pub invariant-loop-k : goal.invariant-loop-k
invariant-loop-k g l =
    (length l.others ≡ length l.initial.others) × All (λ other. other.count ≡ length l.shared.jobs.now) l.others
    × CanSolve l.shared.jobs.now l.at l.solver × Continues 1 l.initial.at l.at l.initial.solver.tally l.solver.tally
