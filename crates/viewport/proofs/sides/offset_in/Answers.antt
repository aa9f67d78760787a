use Rattle.std.proofs.Common.{pos, ◌+ℤ◌, ◌-ℤ◌, arith, rules, w64, SFits}
use Rattle.std.proofs.lemmas.Int.{to_z-of_z, ints}
use Rattle.viewport.proofs.CellsOfSquares.{out_before, out_behind, place_is, place_low}
use Rattle.viewport.proofs.sides.offset_in.Goals as goal
use Rattle.viewport.proofs.sides.offset_in.Goals.{then-z-half-via-then-z-half, then-z-half-via-else-z-half+then-z-half-2}

pub returns-then-z-half : goal.returns-then-z-half
returns-then-z-half c =
    let z : SFits w64 c.args.z = search rules in
    let half : SFits w64 c.signed_half_side-half.result = search rules in
    let small = c.signed_half_side-half.ensures.small in
    let side = c.signed_half_side-half.ensures.side in
    let back : SFits w64 (pos 0 -ℤ c.signed_half_side-half.result) = rw side (omega (arith, ints, small)) in
    elim c.then-z-half.branch [
      | then-z-half-via-then-z-half w ↦ out_before c.args.level c.signed_half_side-half.result side c.args.z (simp to_z-of_z at w.if-z-half.true)
      | then-z-half-via-else-z-half+then-z-half-2 w ↦ out_behind c.args.level c.signed_half_side-half.result side c.args.z c.requires.low (simp to_z-of_z at w.if-z-half-2.true)
    ]

pub returns : goal.returns
returns c =
    let z : SFits w64 c.args.z = search rules in
    let half : SFits w64 c.signed_half_side-half.result = search rules in
    let small = c.signed_half_side-half.ensures.small in
    let side = c.signed_half_side-half.ensures.side in
    let back : SFits w64 (pos 0 -ℤ c.signed_half_side-half.result) = rw side (omega (arith, ints, small)) in
    let sum : SFits w64 (c.args.z +ℤ c.signed_half_side-half.result) = search rules in
    let after = simp to_z-of_z at c.if-z-half.false in
    let before = simp to_z-of_z at c.if-z-half-2.false in
    simp to_z-of_z (place_is c.args.z c.signed_half_side-half.result c.args.level side after, place_low c.args.z c.signed_half_side-half.result c.args.level c.requires.low side after before)
