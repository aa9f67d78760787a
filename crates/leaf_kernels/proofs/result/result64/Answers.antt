use Rattle.std.proofs.Common.{◌^◌, min, refl, subst, arith}
use Rattle.plane.specs.Plane.{after}
use Rattle.plane.proofs.Parts.{after_same}
use Rattle.leaf_kernels.specs.Inside.{AgreeInside}
use Rattle.leaf_kernels.specs.Rows.{four_fours_plane, four_sixteens_plane, rows_plane}
use Rattle.leaf_kernels.proofs.Futures.{agree_same, centre_agrees, generations_of, few_generations}
use Rattle.leaf_kernels.proofs.result.result64.Goals as goal

pub returns : goal.returns
returns c =
    let rule = c.args.rule.now in
    let square = four_sixteens_plane c.args.quarters in
    let rows = rows_plane c.rows_of.result in
    let later = rows_plane c.later_rows-later.result in
    let n = 2 ^ min c.args.exp 4 in
    let agree = subst (λ m. AgreeInside 64 m later (after rule rows m)) (generations_of 4 c.args.exp c.requires (omega arith)) c.later_rows-later.ensures in
    centre_agrees 64 16 32 refl refl n later (after rule square n) (four_fours_plane c.middle_of.result)
    (few_generations 4 c.args.exp) c.middle_of.ensures (agree_same 64 n later (after rule rows n) (after rule square n) agree (after_same rule rows square n c.rows_of.ensures))
