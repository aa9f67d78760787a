use Rattle.std.proofs.Common.{◌≡◌, sym, add-one, subst, arith}
use Rattle.plane.specs.Plane.{after}
use Rattle.plane.proofs.Same.{same_refl}
use Rattle.leaf_kernels.specs.Inside.{AgreeInside}
use Rattle.leaf_kernels.specs.Rows.{rows_plane}
use Rattle.leaf_kernels.proofs.Futures.{agree_at_first, agree_next}
use Rattle.leaf_kernels.proofs.generation.rows_after.Goals as goal

pub loop-init : goal.loop-init
loop-init g c = agree_at_first 64 (rows_plane c.args.rows) (rows_plane c.args.rows) (same_refl (rows_plane c.args.rows))

pub loop-preserved : goal.loop-preserved
loop-preserved g c =
    let rule = g.N.NextCells.rule c.args.kernel.now in
    subst (λ n. AgreeInside 64 n (rows_plane c.advance.new.rows) (after rule (rows_plane c.args.rows) n)) (sym (add-one c.loop.counter))
    (agree_next 64 rule c.loop.counter (rows_plane c.loop.later) (rows_plane c.advance.new.rows) (rows_plane c.args.rows) c.advance.ensures c.loop.invariant)

pub returns : goal.returns
returns g c =
    let rule = g.N.NextCells.rule c.args.kernel.now in
    let last : c.loop.counter ≡ c.args.generations = omega arith in
    subst (λ n. AgreeInside 64 n (rows_plane c.loop.later) (after rule (rows_plane c.args.rows) n)) last c.loop.invariant
