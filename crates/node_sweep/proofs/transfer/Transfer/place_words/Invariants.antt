use Rattle.table_core.specs.Good.{KeepsWords}
use Rattle.node_sweep.specs.Transfers.{IsUnderway, fresh_words}
use Rattle.node_sweep.proofs.transfer.Transfer.place_words.Given as goal

abbrev pub invariant-loop-i : goal.invariant-loop-i
invariant-loop-i l = record {
  underway : IsUnderway l.fn.self l.fresh;
  keeps : KeepsWords (fresh_words l.fn.fresh) (fresh_words l.fresh);
}
