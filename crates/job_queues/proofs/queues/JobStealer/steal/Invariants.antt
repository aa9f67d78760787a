use Rattle.std.proofs.Common.{◌≡◌}
use Rattle.crossbeam_deque.specs.Handles.{IsPassOf, view, stealer_deque}
use Rattle.job_queues.proofs.queues.JobStealer.steal.Given as goal

abbrev pub invariant-tries : goal.invariant-tries
invariant-tries l = record {
  count : l.self.count ≡ l.initial.self.count;
  fits : IsPassOf (stealer_deque l.self.thief) l.self.pass;
  same : view l.self.pass ≡ view l.initial.self.pass;
}
