use Rattle.std.proofs.Common.{arith}
use Rattle.node_sweep.specs.Transfers.{old_table}
use Rattle.node_sweep.proofs.Telling.{words_on}
use Rattle.node_sweep.proofs.transfer.Transfer.kept_results.Goals as goal

pub loop-i-preserved : goal.loop-i-preserved
loop-i-preserved c =
    let few = c.requires.few in
    let same = c.loop-i.auto.told in
    let less = c.loop-i-test.true in
    words_on (old_table c.args.self.now) c.args.copies.now c.loop-i.told c.args.from c.loop-i.i c.index-pair.result c.kept_result.result c.loop-i.invariant (omega arith)
    c.index-pair.ensures.index c.kept_result.ensures
