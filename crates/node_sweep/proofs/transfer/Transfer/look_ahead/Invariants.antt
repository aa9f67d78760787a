use Rattle.node_sweep.specs.Blocks.{AreFirstFound}
use Rattle.node_sweep.proofs.transfer.Transfer.look_ahead.Given as goal

abbrev pub invariant-loop-i : goal.invariant-loop-i
invariant-loop-i l = AreFirstFound l.fn.self l.fresh l.words l.found l.i
