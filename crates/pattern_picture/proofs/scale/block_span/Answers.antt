use Rattle.std.proofs.Common.{arith, rules}
use Rattle.std.specs.Int.{w64}
use Rattle.std.proofs.lemmas.Int.{to_z-of_z}
use mir.Val.{SFits}
use Rattle.pattern_picture.specs.Scale.{block_at}
use Rattle.pattern_picture.proofs.Floors.{block_span-most}
use Rattle.pattern_picture.proofs.scale.block_span.Goals as goal

pub overflow_add-result : goal.overflow_add-result
overflow_add-result c =
    let most = block_span-most c.args.exponent c.args.first c.args.last c.requires.side in
    let first = c.ranges.first in
    let last = c.ranges.last in
    let at_first = simp to_z-of_z at c.block_at-2.ensures in
    let at_last = simp to_z-of_z at c.block_at.ensures in
    let left : SFits w64 (block_at c.args.exponent c.args.first) = rw (← at_first) (search rules) in
    let right : SFits w64 (block_at c.args.exponent c.args.last) = rw (← at_last) (search rules) in
    let distance = simp to_z-of_z at (rw (at_last, at_first) at c.abs_diff.ensures) in
    record { fits = rw distance (omega (arith, most)) }
