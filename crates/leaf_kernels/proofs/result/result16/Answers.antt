use Rattle.std.proofs.Common.{◌≡◌, ◌^◌, min, sym, add-one, refl, subst, arith}
use Rattle.plane.specs.Plane.{after}
use Rattle.plane.specs.Square.{bits_plane}
use Rattle.plane.specs.Leaves.{leaves_plane}
use Rattle.leaf_kernels.specs.Rows.{sixteen_rows_plane}
use Rattle.leaf_kernels.specs.Inside.{AgreeInside}
use Rattle.leaf_kernels.proofs.Futures.{agree_at_first, agree_next, centre_agrees, generations_of, few_generations}
use Rattle.leaf_kernels.proofs.result.result16.Goals as goal

pub loop-init : goal.loop-init
loop-init c = agree_at_first 16 (sixteen_rows_plane c.rows_of_leaves-rows.result) (leaves_plane c.args.leaves) c.rows_of_leaves-rows.ensures

pub loop-preserved : goal.loop-preserved
loop-preserved c =
    subst (λ n. AgreeInside 16 n (sixteen_rows_plane c.next_rows-rows.result) (after c.args.rule.now (leaves_plane c.args.leaves) n)) (sym (add-one c.loop.counter))
    (agree_next 16 c.args.rule.now c.loop.counter (sixteen_rows_plane c.loop.rows) (sixteen_rows_plane c.next_rows-rows.result) (leaves_plane c.args.leaves) c.next_rows-rows.ensures c.loop.invariant)

pub returns : goal.returns
returns c =
    let all = generations_of 2 c.args.exp c.requires (omega arith) in
    let last : c.loop.counter ≡ 2 ^ min c.args.exp 2 = omega arith in
    centre_agrees 16 4 8 refl refl (2 ^ min c.args.exp 2) (sixteen_rows_plane c.loop.rows) (after c.args.rule.now (leaves_plane c.args.leaves) (2 ^ min c.args.exp 2)) (bits_plane c.centre_of_rows.result)
    (few_generations 2 c.args.exp) c.centre_of_rows.ensures
    (subst (λ n. AgreeInside 16 n (sixteen_rows_plane c.loop.rows) (after c.args.rule.now (leaves_plane c.args.leaves) n)) last c.loop.invariant)
