use Rattle.std.proofs.Common.{◌≡◌}
use Rattle.worker_split.specs.Work.{Continues}
use Rattle.worker_split.proofs.serving.help.Given as goal

abbrev pub invariant-loop-k : goal.invariant-loop-k
invariant-loop-k l = (l.solver.answers ≡ l.initial.solver.answers) × Continues 1 l.initial.at l.at l.initial.solver.tally l.solver.tally
