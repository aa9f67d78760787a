-- The jobs with which a queue begins, and those that are left of them.
use Rattle.std.specs.Prelude.{◌≡◌, ℕ, ◌-◌, List, true}
use Rattle.std.specs.List.{range_with_len}
use Rattle.crossbeam_deque.specs.Handles.{view, worker_view}
use Rattle.job_queues.specs.declared.queues.JobQueue.{JobQueue}
use Rattle.job_queues.specs.declared.queues.JobStealer.{JobStealer}

-- the jobs from `low` to before `high`, in order
abbrev pub jobs_between : ℕ → ℕ → List ℕ
jobs_between low high = range_with_len low (high - low)

-- the jobs that were pushed into a worker's own queue, in order
abbrev pub share_in : JobQueue → List ℕ
share_in queue = (worker_view queue.deque).share

-- those of them that are left, as far as the worker knows: some may be stolen
abbrev pub left_in : JobQueue → List ℕ
left_in queue = (worker_view queue.deque).left

-- no one steals from the queue
abbrev pub HasNoThief : JobQueue → Type 0
HasNoThief queue = (worker_view queue.deque).alone ≡ true

-- the jobs that were pushed into the queue from which a thief steals, in order
abbrev pub share_of : JobStealer → List ℕ
share_of stealer = (view stealer.pass).share

-- those of them that are left, as far as the thief knows: some may be taken
abbrev pub left_of : JobStealer → List ℕ
left_of stealer = (view stealer.pass).left
