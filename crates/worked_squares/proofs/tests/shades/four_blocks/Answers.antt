use Rattle.std.proofs.Common.{◌^◌, ◌≤◌, pow_mono, arith}
use Rattle.std.proofs.lemmas.Int.{ints}
use Rattle.worked_squares.proofs.tests.shades.four_blocks.Goals as goal

pub returns-clause-columns : goal.returns-clause-columns
returns-clause-columns c =
    let small : 2 ^ c.args.exponent ≤ 2 ^ 62 = pow_mono {i = c.args.exponent} {j = 62} c.requires in
    record { low = omega (arith, ints, small); high = omega (arith, ints, small) }

pub returns-clause-rows : goal.returns-clause-rows
returns-clause-rows c =
    let small : 2 ^ c.args.exponent ≤ 2 ^ 62 = pow_mono {i = c.args.exponent} {j = 62} c.requires in
    record { low = omega (arith, ints, small); high = omega (arith, ints, small) }
