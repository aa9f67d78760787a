use Rattle.std.proofs.Common.{sym, subst}
use Rattle.plane.specs.Plane.{after}
use Rattle.leaf_kernels.specs.Inside.{AgreeInside}
use Rattle.leaf_kernels.specs.Rows.{rows_plane}
use Rattle.leaf_kernels.proofs.generation.later_rows.Goals as goal

pub returns-then-is_life : goal.returns-then-is_life
returns-then-is_life c =
    subst (λ rule. AgreeInside 64 c.args.generations (rows_plane c.rows_after.result) (after rule (rows_plane c.args.rows) c.args.generations)) (sym (c.is_life.ensures.0 c.if-is_life.true)) c.rows_after.ensures
