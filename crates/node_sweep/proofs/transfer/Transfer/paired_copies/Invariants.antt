use Rattle.node_sweep.specs.Blocks.{ArePairedCopies}
use Rattle.node_sweep.proofs.transfer.Transfer.paired_copies.Given as goal

abbrev pub invariant-loop-i : goal.invariant-loop-i
invariant-loop-i l = ArePairedCopies l.fn.self l.copies l.slots l.words l.i
