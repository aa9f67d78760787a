use Rattle.std.proofs.Common.{◌*◌}
use Rattle.node_sweep.specs.Transfers.{AreResultsKept}
use Rattle.node_sweep.proofs.transfer.Transfer.with_results.Given as goal

abbrev pub invariant-loop-block : goal.invariant-loop-block
invariant-loop-block l = AreResultsKept l.fn.self l.copies.items l.words.items (64 * l.block)
