use Rattle.std.proofs.Common.{arith, w64, SFits}
use Rattle.std.proofs.lemmas.Int.{ints, to_z-of_z}
use Rattle.pattern_writers.proofs.rle_text.frame.side.Goals as goal

pub returns-then-steps : goal.returns-then-steps
returns-then-steps c =
    let first : SFits w64 c.args.first = c.ranges.first in
    let last : SFits w64 c.args.last = c.ranges.last in
    let steps = simp to_z-of_z at c.abs_diff-steps.ensures in (omega (arith, ints, steps, c.if-steps.true), omega (arith, ints, steps))
