use Rattle.std.proofs.Common.{◌≡◌, refl, subst}
use Rattle.std.specs.Int.{w64}
use Rattle.std.proofs.lemmas.Int.{to_z-of_z}
use Rattle.plane.specs.Plane.{Plane}
use Rattle.viewport.specs.Rows.{IsFirstRow}
use Rattle.engine.specs.Pattern.{plane_of}
use Rattle.engine.specs.States.{state_cells}
use Rattle.engine.proofs.Sessions.{same_by_state}
use Rattle.engine.proofs.session.Session.first_row.Goals as goal

pub returns-in_err-pattern-clause-same : goal.returns-in_err-pattern-clause-same
returns-in_err-pattern-clause-same c = same_by_state c.args.self.now _ refl refl refl c.rest.ensures.same

pub returns-in_err-pattern-clause-results : goal.returns-in_err-pattern-clause-results
returns-in_err-pattern-clause-results c = c.rest.ensures.results

pub returns-clause-same : goal.returns-clause-same
returns-clause-same c = same_by_state c.args.self.now _ refl refl refl c.rest.ensures.same

pub returns-clause-results : goal.returns-clause-results
returns-clause-results c = c.rest.ensures.results

pub returns-clause-ok : goal.returns-clause-ok
returns-clause-ok c =
    let is : plane_of c.in_ok-pattern.pattern.now ≡ state_cells c.rest.new.self = rw c.in_ok-pattern.ensures.ok_part at c.pattern.ensures.some in
    subst (λ (p : Plane). IsFirstRow p c.args.y c.first_row.result) is (rw (to_z-of_z w64 c.args.y c.ranges.y) at c.first_row.ensures)
