use Rattle.std.specs.Prelude.{slice_index}
use Rattle.node_table.proofs.Ranks.{Descends}
use Rattle.node_table.proofs.still.Still.rank.Given as goal

abbrev pub invariant-loop-rank : goal.invariant-loop-rank
invariant-loop-rank l = Descends l.fn.self.key.shape.bits (slice_index l.fn.self.words) l.fn.number l.number l.rank
