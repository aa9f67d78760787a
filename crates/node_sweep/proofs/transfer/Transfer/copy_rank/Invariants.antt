use Rattle.node_sweep.specs.Transfers.{IsUnderway}
use Rattle.node_sweep.proofs.transfer.Transfer.copy_rank.Given as goal

abbrev pub invariant-loop-i : goal.invariant-loop-i
invariant-loop-i l = IsUnderway l.fn.self l.fresh
