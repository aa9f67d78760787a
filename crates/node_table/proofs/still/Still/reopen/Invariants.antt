use Rattle.node_table.proofs.Reopening.{IsThrough}
use Rattle.node_table.proofs.still.Still.reopen.Given as goal

abbrev pub invariant-loop-slot : goal.invariant-loop-slot
invariant-loop-slot l = IsThrough l.fn.self l.fn.key l.words.items l.slot
