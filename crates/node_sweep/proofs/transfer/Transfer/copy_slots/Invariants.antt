use Rattle.std.specs.Prelude.{◌<◌}
use Rattle.node_sweep.specs.Transfers.{IsUnderway}
use Rattle.node_sweep.proofs.transfer.Transfer.copy_slots.Given as goal

abbrev pub invariant-loop-i : goal.invariant-loop-i
invariant-loop-i l = record {
  underway : IsUnderway l.fn.self l.fresh;
  few : l.count < 64;
}
