use Rattle.std.proofs.Common.{ℤ, w64}
use Rattle.std.proofs.lemmas.Int.{to_z-of_z}
use Rattle.plane.proofs.Same.{same_refl}
use Rattle.period_search.proofs.BoxDifferences.{ways_fit}
use Rattle.period_search.proofs.ReadNumbers.{moved_other, on_false_from, read}
use Rattle.engine.specs.Pattern.{plane_of}
use Rattle.engine.specs.Sessions.{cells_of}
use Rattle.period_search.proofs.InRange.{pattern_box, session_box}
use Rattle.period_search.proofs.MovedBoxes.{no_other_way, sides_moved}
use Rattle.period_search.proofs.displacement.displacement_of_boxes.Goals as goal

pub move_of-requires-clause-from : goal.move_of-requires-clause-from
move_of-requires-clause-from c = pattern_box c.args.first.now c.args.from c.requires.from

pub move_of-requires-clause-to : goal.move_of-requires-clause-to
move_of-requires-clause-to c = session_box c.args.session.now c.args.to c.requires.to

pub returns-in_default-clause-none : goal.returns-in_default-clause-none
returns-in_default-clause-none c = λ right down same.
    c.in_default.ensures.none right down (sides_moved (plane_of c.args.first.now) (cells_of c.args.session.now) right down c.args.from c.args.to same c.requires.from c.requires.to)

pub returns-else-branch-clause-none : goal.returns-else-branch-clause-none
returns-else-branch-clause-none c =
    let plane = plane_of c.args.first.now in
    let other = cells_of c.args.session.now in
    let right : ℤ = c.in-Some.right in
    let down : ℤ = c.in-Some.down in
    let fits = ways_fit c.args.from c.args.to right down (pattern_box c.args.first.now c.args.from c.requires.from) (session_box c.args.session.now c.args.to c.requires.to) c.in-Some.ensures.some in
    no_other_way plane other right down c.args.from c.args.to c.requires.from c.requires.to c.in-Some.ensures.some
    (λ same. on_false_from _ c.in_ok-has_moved_rows.field-0 c.in_ok-has_moved_rows.ensures.no c.if-branch.false
    (moved_other plane other other (read right) right (read down) down (to_z-of_z w64 right fits.0) (to_z-of_z w64 down fits.1) (same_refl other) same))
