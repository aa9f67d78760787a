use Rattle.std.proofs.Common.{◌≡◌, ◌<◌, ◌≤◌, ◌∙◌, All, ap, sym, subst, rules, arith}
use Rattle.crossbeam_deque.specs.Handles.{worker_view}
use Rattle.job_queues.specs.Shares.{jobs_between}
use Rattle.job_queues.proofs.Ranges.{jobs_below}
use Rattle.job_queues.proofs.Pieces.{begins, next_push, pushes}
use Rattle.job_queues.proofs.queues.JobQueue.with_share.Goals as goal

pub fifo_as-requires : goal.fifo_as-requires
fifo_as-requires c = begins

pub push_as-requires-clause-pushes : goal.push_as-requires-clause-pushes
push_as-requires-clause-pushes c = pushes _ _ _ c.loop-job.invariant.alone

pub loop-job-preserved : goal.loop-job-preserved
loop-job-preserved c =
    let was = c.loop-job.invariant in
    let same = c.push_as.ensures.same in
    let rule = c.in-Ok.ensures.rule in
    let le : c.args.low ≤ c.loop-job.job = search rules in
    let next = next_push c.args.low c.loop-job.job (worker_view c.loop-job.deque) (worker_view c.push_as.new.self) le was.share was.left rule.0 in
    let index = rule.1 in
    let was_index = was.index in
    let room = was.room in
    let more = same.3 in
    record {
      first_in_first_out = same.1 ∙ was.first_in_first_out;
      alone = next.0;
      share = next.1;
      left = next.2;
      index = omega (arith, index, was_index, le);
      room = omega (arith, room, more);
    }

pub invariant_of-result : goal.invariant_of-result
invariant_of-result c =
    let le : c.loop-job.job ≤ c.args.count = search rules in
    record {
      first_in_first_out = c.loop-job.invariant.first_in_first_out;
      below = subst (All (λ job. job < c.args.count)) (sym c.loop-job.invariant.share) (jobs_below c.args.low c.loop-job.job c.args.count le);
    }

pub returns-clause-share : goal.returns-clause-share
returns-clause-share c =
    let within = c.loop-job.auto.job-end c.requires.0 in
    let past = c.loop-job-test.false in
    let last : c.loop-job.job ≡ c.args.high = omega (arith, within, past) in
    c.loop-job.invariant.share ∙ ap (jobs_between c.args.low) last

pub returns-clause-left : goal.returns-clause-left
returns-clause-left c =
    let within = c.loop-job.auto.job-end c.requires.0 in
    let past = c.loop-job-test.false in
    let last : c.loop-job.job ≡ c.args.high = omega (arith, within, past) in
    c.loop-job.invariant.left ∙ ap (jobs_between c.args.low) last
