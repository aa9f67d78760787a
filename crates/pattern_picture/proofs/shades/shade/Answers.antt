use Rattle.std.proofs.Common.{arith}
use Rattle.std.proofs.lemmas.Grind.{common_steps}
use Rattle.pattern_picture.specs.Shades.{shade_of}
use Rattle.pattern_picture.proofs.Shading.{floor_log2_is}
use Rattle.pattern_picture.proofs.shades.shade.Goals as goal

pub returns-then-count-eq0 : goal.returns-then-count-eq0
unfolding shade_of
returns-then-count-eq0 c = grind (arith, common_steps)

pub returns-then-exponent-eq0 : goal.returns-then-exponent-eq0
unfolding shade_of
returns-then-exponent-eq0 c = grind (arith, common_steps)

pub returns : goal.returns
unfolding shade_of
returns c =
    let log = floor_log2_is c.args.count c.ilog2.result c.ilog2.ensures.power_le c.ilog2.ensures.next_power_gt in
    grind (arith, common_steps, log)
