use Rattle.std.proofs.Common.{arith}
use Rattle.node_sweep.proofs.SideBySide.{paired_on}
use Rattle.node_sweep.proofs.transfer.Transfer.paired_copies.Goals as goal

pub loop-i-preserved : goal.loop-i-preserved
loop-i-preserved c = paired_on c.args.self.now c.args.copies.now c.args.slots.now c.loop-i.words c.loop-i.i c.paired_copy.result c.loop-i.invariant (omega arith) c.paired_copy.ensures
