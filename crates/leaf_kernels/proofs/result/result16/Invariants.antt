use Rattle.plane.specs.Plane.{after}
use Rattle.plane.specs.Leaves.{leaves_plane}
use Rattle.leaf_kernels.specs.Rows.{sixteen_rows_plane}
use Rattle.leaf_kernels.specs.Inside.{AgreeInside}
use Rattle.leaf_kernels.proofs.result.result16.Given as goal

abbrev pub invariant-loop : goal.invariant-loop
invariant-loop l = AgreeInside 16 l.counter (sixteen_rows_plane l.rows) (after l.fn.rule (leaves_plane l.fn.leaves) l.counter)
