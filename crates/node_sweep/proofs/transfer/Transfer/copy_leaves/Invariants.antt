use Rattle.std.proofs.Common.{◌≢◌}
use Rattle.node_sweep.specs.Transfers.{IsUnderway}
use Rattle.node_sweep.proofs.transfer.Transfer.copy_leaves.Given as goal

abbrev pub invariant-loop-number : goal.invariant-loop-number
invariant-loop-number l = record {
  underway : IsUnderway l.fn.self l.fresh;
  some : l.number ≢ 0;
}
