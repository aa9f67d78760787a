use Rattle.node_sweep.specs.Transfers.{IsUnderway}
use Rattle.node_sweep.proofs.transfer.Transfer.copy_ranks.Given as goal

abbrev pub invariant-loop-below : goal.invariant-loop-below
invariant-loop-below l = IsUnderway l.fn.self l.fresh
