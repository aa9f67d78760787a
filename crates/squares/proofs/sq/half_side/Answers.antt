use Rattle.std.proofs.Common.{◌≡◌, ◌-◌, ◌*◌, ◌%◌, ◌^◌, ◌≤◌, arith}
use Rattle.std.proofs.lemmas.Nat.{one_shl}
use Rattle.std.proofs.Math.Pow.{pow_mono}
use Rattle.squares.proofs.sq.half_side.Goals as goal

pub returns-clause-bound : goal.returns-clause-bound
returns-clause-bound c =
    let level = c.args.level in
    let low = c.requires.0 in
    let high = c.requires.1 in
    let most : 2 ^ (level - 1) ≤ 2 ^ 62 = pow_mono {i = level - 1} {j = 62} (omega arith) in
    let value : (1 * 2 ^ (level - 1)) % 2 ^ 64 ≡ 2 ^ (level - 1) = one_shl (level - 1) 64 (omega arith) in
    omega (arith, most, value)
