use Rattle.std.proofs.Common.{ℕ, ◌*◌, ◌/◌, ◌≤◌, pos, ◌+ℤ◌, mul-le-mul_left, arith, rules, w64, SFits}
use Rattle.std.proofs.lemmas.Int.{ints, to_z-of_z, to_z_pos}
use Rattle.pattern_writers.proofs.rle_text.frame.Frame.band_row.Goals as goal

times_most : (height band : ℕ) → band ≤ 64 → height * band ≤ height * 64
times_most height band most = mul-le-mul_left height most

part_of : (height band : ℕ) → band ≤ 64 → height * band / 64 ≤ height
part_of height band most = let times = times_most height band most in omega (arith, times)

pub overflow_mul-result : goal.overflow_mul-result
overflow_mul-result c =
    let times = times_most c.args.self.height c.args.band c.requires.band in
    let height = c.requires.room.height in omega (arith, times, height)

pub overflow_add-result : goal.overflow_add-result
overflow_add-result c =
    let part = part_of c.args.self.height c.args.band c.requires.band in
    let height = c.requires.room.height in
    let bottom = c.requires.room.bottom in
    let y : SFits w64 c.args.self.corner.y = search rules in
    let same = to_z_pos w64 (c.args.self.height * c.args.band / 64) (omega (arith, part, height)) in
    rw (to_z-of_z w64 c.args.self.corner.y y, same) (omega (arith, ints, part, bottom, y))

pub returns : goal.returns
returns c =
    let part = part_of c.args.self.height c.args.band c.requires.band in
    let height = c.requires.room.height in
    let bottom = c.requires.room.bottom in
    let y : SFits w64 c.args.self.corner.y = search rules in
    let place : ℕ = c.args.self.height * c.args.band / 64 in
    let same = to_z_pos w64 place (omega (arith, part, height)) in
    let row : SFits w64 (c.args.self.corner.y +ℤ pos place) = omega (arith, ints, part, bottom, y) in
    rw (to_z-of_z w64 c.args.self.corner.y y, same) (to_z-of_z w64 (c.args.self.corner.y +ℤ pos place) row)
