use Rattle.std.proofs.Common.{◌≤◌, arith}
use Rattle.std.proofs.lemmas.Int.{ints, to_z-of_z}
use Rattle.universe.specs.Cells.{live_cells}
use Rattle.universe.proofs.InRange.{held_by_root, square_encloses}
use Rattle.universe.proofs.universe.Universe.square_box.Goals as goal

pub returns : goal.returns
returns c =
    let universe = c.args.self.now in
    let least = universe.level.0 in
    let some : 1 ≤ universe.root.level = omega (arith, least) in
    let value = c.half_side-half.ensures.value in
    let bound = c.half_side-half.ensures.bound in
    square_encloses universe.root.level (live_cells universe) _ some (held_by_root universe) (grind (arith, ints, to_z-of_z)) (grind (arith, ints, to_z-of_z)) (grind (arith, ints, to_z-of_z)) (grind (arith, ints, to_z-of_z))
