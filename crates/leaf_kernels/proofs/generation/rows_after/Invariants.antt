use Rattle.plane.specs.Plane.{after}
use Rattle.leaf_kernels.specs.Inside.{AgreeInside}
use Rattle.leaf_kernels.specs.Rows.{rows_plane}
use Rattle.leaf_kernels.proofs.generation.rows_after.Given as goal

abbrev pub invariant-loop : goal.invariant-loop
invariant-loop g l = AgreeInside 64 l.counter (rows_plane l.later) (after (g.N.NextCells.rule l.fn.kernel) (rows_plane l.fn.rows) l.counter)
