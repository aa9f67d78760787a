use Rattle.std.proofs.Common.{◌+◌}
use Rattle.node_sweep.specs.Transfers.{AreResultsKept}
use Rattle.node_sweep.proofs.transfer.Transfer.tell_results.Given as goal

abbrev pub invariant-loop-i : goal.invariant-loop-i
invariant-loop-i l = AreResultsKept l.fn.self l.copies l.words (l.fn.from + l.i)
