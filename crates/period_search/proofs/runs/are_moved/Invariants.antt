use Rattle.period_search.proofs.MovedRuns.{AreMovedBefore}
use Rattle.period_search.proofs.runs.are_moved.Given as goal

abbrev pub invariant-loop-i : goal.invariant-loop-i
invariant-loop-i l = AreMovedBefore l.right l.runs l.others l.i
