use Rattle.std.proofs.Common.{ℤ, None, Some, subst}
use Rattle.std.specs.Prelude.{IfNone, IfOk}
use Rattle.engine.specs.Pattern.{plane_of}
use Rattle.engine.specs.Sessions.{IsSameSession, cells_of}
use Rattle.engine.proofs.Sessions.{same_then, whenever}
use Rattle.plane.specs.Laws.{moved}
use Rattle.plane.specs.Plane.{Plane}
use Rattle.plane.specs.Square.{IsSame}
use Rattle.plane.proofs.Same.{plane_equal, same_refl}
use Rattle.period_search.proofs.MovedBoxes.{both_empty, bounds_at, nothing_still, only_other, only_this, population_moved}
use Rattle.period_search.proofs.displacement.displacement.Goals as goal

pub returns-then-branch-population-clause-none : goal.returns-then-branch-population-clause-none
returns-then-branch-population-clause-none c = λ right down same.
    c.if-branch-population.true
    (population_moved (plane_of c.args.first.now) (cells_of c.args.session.now) right down c.args.population c.in_ok-population.field-0 same c.requires.population c.in_ok-population.ensures.ok)

pub returns-in-None-None-clause-some : goal.returns-in-None-None-clause-some
returns-in-None-None-clause-some c =
    let plane = plane_of c.args.first.now in
    let other = cells_of c.args.session.now in
    both_empty plane other (bounds_at plane plane c.args.bounds None (same_refl plane) c.in-None-None.is-0 c.requires.bounds)
    (bounds_at (cells_of c.population.new.self) other c.in_ok-bounds.field-0 None c.population.ensures.same.cells c.in-None-None.is-1 c.in_ok-bounds.ensures.ok)

pub returns-in-Some-Some-clause-none : goal.returns-in-Some-Some-clause-none
returns-in-Some-Some-clause-none c =
    let whole : IsSameSession c.args.session.now c.bounds.new.self = same_then {first = c.args.session.now} {second = c.population.new.self} {third = c.bounds.new.self} c.population.ensures.same c.bounds.ensures.same in
    subst (λ (p : Plane). IfOk c.displacement_of_boxes.result (λ found. IfNone found ((right : ℤ) → (down : ℤ) → IsSame p (moved right down (plane_of c.args.first.now)) → ⊥)))
    (plane_equal (cells_of c.bounds.new.self) (cells_of c.args.session.now) whole.cells) c.displacement_of_boxes.ensures.none

pub returns-in_default-clause-none : goal.returns-in_default-clause-none
returns-in_default-clause-none c =
    let plane = plane_of c.args.first.now in
    let other = cells_of c.args.session.now in
    only_other plane other c.in_default.field-0-1 (bounds_at plane plane c.args.bounds None (same_refl plane) c.in_default.is-0 c.requires.bounds)
    (bounds_at (cells_of c.population.new.self) other c.in_ok-bounds.field-0 (Some c.in_default.field-0-1) c.population.ensures.same.cells c.in_default.is-1 c.in_ok-bounds.ensures.ok)

pub returns-in_default-2-clause-none : goal.returns-in_default-2-clause-none
returns-in_default-2-clause-none c =
    let plane = plane_of c.args.first.now in
    let other = cells_of c.args.session.now in
    only_this plane other c.in_default.field-0-0 (bounds_at plane plane c.args.bounds (Some c.in_default.field-0-0) (same_refl plane) c.in_default.is-0 c.requires.bounds)
    (bounds_at (cells_of c.population.new.self) other c.in_ok-bounds.field-0 None c.population.ensures.same.cells c.in_default.is-1 c.in_ok-bounds.ensures.ok)

pub returns-in-Some-Some-clause-still : goal.returns-in-Some-Some-clause-still
returns-in-Some-Some-clause-still c =
    let plane = plane_of c.args.first.now in
    nothing_still plane c.in-Some-Some.from c.displacement_of_boxes.result (bounds_at plane plane c.args.bounds (Some c.in-Some-Some.from) (same_refl plane) c.in-Some-Some.is-0 c.requires.bounds)

pub returns-in-Some-Some-clause-closed : goal.returns-in-Some-Some-clause-closed
returns-in-Some-Some-clause-closed c = whenever c.displacement_of_boxes.result c.in_ok-population.ensures.closed
