use Rattle.std.proofs.Common.{◌≡◌, ℤ, ◌+ℤ◌, Option, Some, not, int_eq, w64, subst, sym, ◌∙◌}
use Rattle.std.specs.Option.{option_eq}
use Rattle.std.proofs.lemmas.Bool.{false≢true}
use Rattle.std.proofs.lemmas.Int.{to_z-of_z}
use Rattle.engine.specs.Pattern.{plane_of}
use Rattle.engine.specs.Sessions.{IsSameSession, cells_of}
use Rattle.engine.proofs.Sessions.{same_then}
use Rattle.plane.proofs.Same.{same_refl}
use Rattle.viewport.specs.Rows.{IsFirstRow}
use Rattle.period_search.proofs.MovedRows.{next_row, other_row, other_runs, was_found, was_not_found}
use Rattle.period_search.proofs.ReadNumbers.{first_row_as, moved_as, moved_back, on_false, on_true, runs_as, sum_read}
use Rattle.period_search.proofs.rows.has_moved_row.Goals as goal

pub returns-then-ne-clause-no : goal.returns-then-ne-clause-no
returns-then-ne-clause-no c =
    let other = cells_of c.args.session.now in
    let found : Option ℤ = c.in_ok-first_row.field-0 in
    let row_is = sum_read c.args.row c.args.down c.ranges.row c.ranges.down c.requires.row in
    other_row (plane_of c.args.first.now) other c.args.right c.args.down c.args.y c.args.row found c.requires.next
    (first_row_as _ other _ _ found c.in_ok-first_row.ensures.same.cells (sum_read c.args.y c.args.down c.ranges.y c.ranges.down c.requires.from) c.in_ok-first_row.ensures.ok)
    (was_not_found found (c.args.row +ℤ c.args.down) c.ne.result (subst (λ (z : ℤ). c.ne.result ≡ not (option_eq int_eq found (Some z))) row_is c.ne.ensures) c.if-ne.true)

pub returns-clause-session : goal.returns-clause-session
returns-clause-session c = same_then {first = c.args.session.now} {second = c.first_row.new.self} {third = c.row_runs-2.new.self} c.first_row.ensures.same c.row_runs-2.ensures.same

pub returns-clause-yes : goal.returns-clause-yes
returns-clause-yes c =
    let plane = plane_of c.args.first.now in
    let other = cells_of c.args.session.now in
    let found : Option ℤ = c.in_ok-first_row.field-0 in
    let whole : IsSameSession c.args.session.now c.row_runs-2.new.self = same_then {first = c.args.session.now} {second = c.first_row.new.self} {third = c.row_runs-2.new.self} c.first_row.ensures.same c.row_runs-2.ensures.same in
    let row_is = sum_read c.args.row c.args.down c.ranges.row c.ranges.down c.requires.row in
    let is_found : found ≡ Some (c.args.row +ℤ c.args.down) = was_found found (c.args.row +ℤ c.args.down) c.ne.result (subst (λ (z : ℤ). c.ne.result ≡ not (option_eq int_eq found (Some z))) row_is c.ne.ensures) c.if-ne.false in
    on_true _ c.are_moved.result (λ yes.
    next_row plane other c.args.right c.args.down c.args.y c.args.row c.in_ok-runs.runs.items c.in_ok-others.others.items
    (subst (λ (o : Option ℤ). IsFirstRow other (c.args.y +ℤ c.args.down) o) is_found
    (first_row_as _ other _ _ found c.in_ok-first_row.ensures.same.cells (sum_read c.args.y c.args.down c.ranges.y c.ranges.down c.requires.from) c.in_ok-first_row.ensures.ok))
    (runs_as plane plane _ c.args.row c.in_ok-runs.runs.items (same_refl plane) (to_z-of_z w64 c.args.row c.ranges.row) c.in_ok-runs.ensures.ok)
    (runs_as _ other _ _ c.in_ok-others.others.items whole.cells row_is c.in_ok-others.ensures.ok)
    (moved_as _ c.args.right c.deref.result.now c.deref-2.result.now c.in_ok-runs.runs.items c.in_ok-others.others.items (to_z-of_z w64 c.args.right c.ranges.right) c.deref.ensures.value c.deref-2.ensures.value (c.are_moved.ensures.0 yes)))

pub returns-clause-no : goal.returns-clause-no
returns-clause-no c =
    let plane = plane_of c.args.first.now in
    let other = cells_of c.args.session.now in
    let whole : IsSameSession c.args.session.now c.row_runs-2.new.self = same_then {first = c.args.session.now} {second = c.first_row.new.self} {third = c.row_runs-2.new.self} c.first_row.ensures.same c.row_runs-2.ensures.same in
    let row_is = sum_read c.args.row c.args.down c.ranges.row c.ranges.down c.requires.row in
    on_false _ c.are_moved.result (λ no.
    other_runs plane other c.args.right c.args.down c.args.row c.in_ok-runs.runs.items c.in_ok-others.others.items
    (runs_as plane plane _ c.args.row c.in_ok-runs.runs.items (same_refl plane) (to_z-of_z w64 c.args.row c.ranges.row) c.in_ok-runs.ensures.ok)
    (runs_as _ other _ _ c.in_ok-others.others.items whole.cells row_is c.in_ok-others.ensures.ok)
    (λ moved. false≢true (sym no ∙ c.are_moved.ensures.1 (moved_back _ c.args.right c.deref.result.now c.deref-2.result.now c.in_ok-runs.runs.items c.in_ok-others.others.items (to_z-of_z w64 c.args.right c.ranges.right) c.deref.ensures.value c.deref-2.ensures.value moved))))
