use Rattle.std.proofs.Common.{arith, below_more}
use Rattle.pattern_picture.proofs.Floors.{exponent_below}
use Rattle.pattern_picture.proofs.scale.smallest_exponent.Goals as goal

pub loop-shown-smaller : goal.loop-shown-smaller
loop-shown-smaller c =
    let below = exponent_below c.loop-shown.exponent c.args.size c.args.shown c.requires.shown c.requires.size.least c.loop-shown.invariant.0 (rw (c.longer_side.ensures.value, c.from.ensures) at c.loop-shown-test.true) in
    omega (arith, below)

pub loop-shown-preserved : goal.loop-shown-preserved
loop-shown-preserved c =
    let large = rw (c.longer_side.ensures.value, c.from.ensures) at c.loop-shown-test.true in
    let below = exponent_below c.loop-shown.exponent c.args.size c.args.shown c.requires.shown c.requires.size.least c.loop-shown.invariant.0 large in
    (omega (arith, below), below_more _ _ c.loop-shown.invariant.1 large)
