use Rattle.std.proofs.Common.{arith}
use Rattle.std.proofs.lemmas.Int.{ints}
use Rattle.plane.proofs.Cells.{same_cell}
use Rattle.plane.proofs.generation.with_neighbour.Goals as goal

pub returns : goal.returns
returns c = same_cell _ _ _ _ (omega (arith, ints)) (omega (arith, ints))
