use Rattle.node_sweep.specs.Keeping.{AreResultWords}
use Rattle.node_sweep.specs.Transfers.{old_table}
use Rattle.node_sweep.proofs.transfer.Transfer.kept_results.Given as goal

abbrev pub invariant-loop-i : goal.invariant-loop-i
invariant-loop-i l = AreResultWords (old_table l.fn.self) l.copies l.told l.fn.from l.i
