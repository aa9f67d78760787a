use Rattle.std.proofs.Common.{◌≡◌, ◌-◌, ◌≤◌, true}
use Rattle.crossbeam_deque.specs.Handles.{worker_capacity, worker_flavor, worker_index, worker_view}
use Rattle.job_queues.specs.Shares.{jobs_between}
use Rattle.job_queues.proofs.queues.JobQueue.with_share.Given as goal

abbrev pub invariant-loop-job : goal.invariant-loop-job
invariant-loop-job l = record {
  first_in_first_out : worker_flavor l.deque ≡ 0;
  alone : (worker_view l.deque).alone ≡ true;
  share : (worker_view l.deque).share ≡ jobs_between l.low l.job;
  left : (worker_view l.deque).left ≡ jobs_between l.low l.job;
  index : worker_index l.deque ≡ l.job - l.low;
  room : l.high - l.low ≤ worker_capacity l.deque;
}
