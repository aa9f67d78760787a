use Rattle.std.proofs.Common.{◌∷◌, subst}
use Rattle.std.specs.Prelude.{Contains}
use Rattle.job_queues.specs.declared.queues.Seen.{Seen}
use Rattle.crossbeam_deque.specs.Handles.{view}
use Rattle.job_queues.specs.Queues.{IsEnd}
use Rattle.job_queues.proofs.Pieces.{one_taken, takes}
use Rattle.job_queues.proofs.queues.JobStealer.steal.Goals as goal

pub steal_as-requires-clause-takes : goal.steal_as-requires-clause-takes
steal_as-requires-clause-takes c = takes _ _

pub returns-in-Success-clause-of_share : goal.returns-in-Success-clause-of_share
returns-in-Success-clause-of_share c =
    subst (λ (v : Seen). Contains v.share c.in-Success.job) c.tries.invariant.same (one_taken _ _ _ c.in-Success.ensures.rule).0

pub returns-in-Success-clause-first : goal.returns-in-Success-clause-first
returns-in-Success-clause-first c =
    subst (λ (v : Seen). IsEnd (c.in-Success.job ∷ (view c.steal_as.new.pass).left) v.left) c.tries.invariant.same (one_taken _ _ _ c.in-Success.ensures.rule).1
