use Rattle.std.proofs.Common.{◌-◌}
use Rattle.viewport.proofs.RunsOfLeaves.{AreTaken}
use Rattle.viewport.proofs.runs.add_leaf_row.Given as goal

abbrev pub invariant-loop-rest : goal.invariant-loop-rest
invariant-loop-rest l = AreTaken l.word l.y l.x l.rest l.left l.fn.runs.items l.runs.items

abbrev pub decreases-loop-rest : goal.decreases-loop-rest
decreases-loop-rest l = 8 - l.x
