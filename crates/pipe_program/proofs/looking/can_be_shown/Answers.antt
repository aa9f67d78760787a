use Rattle.std.proofs.Common.{rules, w64}
use Rattle.std.proofs.lemmas.Int.{to_z-of_z}
use Rattle.plane.specs.declared.cell.Bounds.{Bounds}
use Rattle.pipe_program.proofs.ShownPatterns.{shown_by_sides, sides_as}
use Rattle.pipe_program.proofs.looking.can_be_shown.Goals as goal

pub returns-then-are_sides : goal.returns-then-are_sides
returns-then-are_sides c =
    let box : Bounds = c.args.shown in
    shown_by_sides box c.are_sides-then-are_sides.result
    ((sides_as c.are_sides.result (to_z-of_z w64 box.left (search rules)) (to_z-of_z w64 box.right (search rules)) c.are_sides.ensures).0 c.if-are_sides.true)
    (sides_as c.are_sides-then-are_sides.result (to_z-of_z w64 box.top (search rules)) (to_z-of_z w64 box.bottom (search rules)) c.are_sides-then-are_sides.ensures)
