use Rattle.std.proofs.Common.{◌≡◌, ℤ, pos, ◌+ℤ◌, Option, w64, to_z, SFits, subst, sym, ◌∙◌, ap, arith}
use Rattle.std.proofs.lemmas.Int.{ints, to_z-of_z}
use Rattle.engine.specs.Pattern.{plane_of}
use Rattle.engine.specs.Sessions.{IsSameSession, cells_of}
use Rattle.engine.proofs.Sessions.{same_session, same_then}
use Rattle.plane.specs.Laws.{moved}
use Rattle.plane.specs.Square.{IsSame}
use Rattle.viewport.specs.Rows.{IsFirstRow}
use Rattle.viewport.specs.BoundingBox.{moved_bounds}
use Rattle.period_search.proofs.InRange.{pattern_box, session_box}
use Rattle.period_search.proofs.MovedBoxes.{none_above, row_within}
use Rattle.period_search.proofs.MovedRows.{AreMovedAbove, all_rows, no_row_moved, row_added}
use Rattle.period_search.proofs.ReadNumbers.{fewer_rows, first_row_as, in_range_fits, moved_fits, moved_other, next_as, none_of, on_false, on_false_from, on_true, on_true_from, read, some_of}
use Rattle.period_search.proofs.rows.has_moved_rows.Goals as goal

pub loop-row-init : goal.loop-row-init
loop-row-init c =
    let box = c.args.bounds.now in
    let near = (pattern_box c.args.first.now box c.requires.bounds).rows in
    let order = near.order in
    let top : read box.top ≡ box.top = to_z-of_z w64 box.top (in_range_fits box.top box.bottom box.top near (omega (arith, ints)) (omega (arith, ints, order))) in
    let plane = plane_of c.args.first.now in
    let other = cells_of c.args.session.now in
    record {
      session = same_session c.args.session.now;
      low = omega (arith, ints, top);
      high = omega (arith, ints, top, order);
      above = subst (λ (z : ℤ). AreMovedAbove plane other (read c.args.right) (read c.args.down) z) (sym top)
          (subst (λ (d : ℤ). AreMovedAbove plane other (read c.args.right) d box.top) (sym (to_z-of_z w64 c.args.down c.ranges.down))
          (subst (λ (r : ℤ). AreMovedAbove plane other r c.args.down box.top) (sym (to_z-of_z w64 c.args.right c.ranges.right))
          (none_above plane other c.args.right c.args.down box c.requires.bounds c.requires.moved)));
    }

pub has_moved_row-requires-clause-from : goal.has_moved_row-requires-clause-from
has_moved_row-requires-clause-from c =
    let box = c.args.bounds.now in
    let near = pattern_box c.args.first.now box c.requires.bounds in
    let there = session_box c.args.session.now (moved_bounds c.args.right c.args.down box) c.requires.moved in
    moved_fits box.top box.bottom c.args.down (to_z w64 c.loop-row.y-bits) (to_z w64 c.loop-row.y-bits) near.rows there.rows c.ranges.down c.loop-row.invariant.low c.loop-row.invariant.high

pub has_moved_row-requires-clause-row : goal.has_moved_row-requires-clause-row
has_moved_row-requires-clause-row c =
    let box = c.args.bounds.now in
    let near = pattern_box c.args.first.now box c.requires.bounds in
    let there = session_box c.args.session.now (moved_bounds c.args.right c.args.down box) c.requires.moved in
    let found = c.in-Some.ensures in
    let within = row_within (plane_of c.args.first.now) box c.requires.bounds found.1.x c.in-Some.row found.1.live in
    let low = within.0 in
    let high = within.1 in
    let row : read c.in-Some.row ≡ c.in-Some.row = to_z-of_z w64 c.in-Some.row (in_range_fits box.top box.bottom c.in-Some.row near.rows low (omega (arith, ints, high))) in
    subst (λ (z : ℤ). SFits w64 (z +ℤ read c.args.down)) (sym row)
    (moved_fits box.top box.bottom c.args.down c.in-Some.row c.in-Some.row near.rows there.rows c.ranges.down low (omega (arith, ints, high)))

pub returns-then-not-branch-clause-session : goal.returns-then-not-branch-clause-session
returns-then-not-branch-clause-session c =
    same_then {first = c.args.session.now} {second = c.loop-row.session} {third = c.has_moved_row.new.session} c.loop-row.invariant.session c.has_moved_row.ensures.session

pub returns-then-not-branch-clause-no : goal.returns-then-not-branch-clause-no
returns-then-not-branch-clause-no c = λ same.
    on_false_from _ c.in_ok-has_moved_row.field-0 c.in_ok-has_moved_row.ensures.no c.if-not-branch.true
    (moved_other (plane_of c.args.first.now) (cells_of c.loop-row.session) (cells_of c.args.session.now) (read c.args.right) c.args.right (read c.args.down) c.args.down
    (to_z-of_z w64 c.args.right c.ranges.right) (to_z-of_z w64 c.args.down c.ranges.down) c.loop-row.invariant.session.cells same)

pub overflow_add-y : goal.overflow_add-y
overflow_add-y c =
    let box = c.args.bounds.now in
    let near = (pattern_box c.args.first.now box c.requires.bounds).rows in
    let found = c.in-Some.ensures in
    let within = row_within (plane_of c.args.first.now) box c.requires.bounds found.1.x c.in-Some.row found.1.live in
    let low = within.0 in
    let high = within.1 in
    let most = near.high in
    let row : read c.in-Some.row ≡ c.in-Some.row = to_z-of_z w64 c.in-Some.row (in_range_fits box.top box.bottom c.in-Some.row near low (omega (arith, ints, high))) in
    subst (λ (z : ℤ). SFits w64 (z +ℤ pos 1)) (sym row) (in_range_fits box.top box.bottom (c.in-Some.row +ℤ pos 1) near (omega (arith, ints, low)) (omega (arith, ints, high)))

pub loop-row-smaller : goal.loop-row-smaller
loop-row-smaller c =
    let box = c.args.bounds.now in
    let near = (pattern_box c.args.first.now box c.requires.bounds).rows in
    let found = c.in-Some.ensures in
    let within = row_within (plane_of c.args.first.now) box c.requires.bounds found.1.x c.in-Some.row found.1.live in
    let low = within.0 in
    let high = within.1 in
    let row : read c.in-Some.row ≡ c.in-Some.row = to_z-of_z w64 c.in-Some.row (in_range_fits box.top box.bottom c.in-Some.row near low (omega (arith, ints, high))) in
    let next : read (read c.in-Some.row +ℤ pos 1) ≡ c.in-Some.row +ℤ pos 1 = ap (λ (z : ℤ). read (z +ℤ pos 1)) row
    ∙ to_z-of_z w64 (c.in-Some.row +ℤ pos 1) (in_range_fits box.top box.bottom (c.in-Some.row +ℤ pos 1) near (omega (arith, ints, low)) (omega (arith, ints, high))) in
    fewer_rows box.bottom (to_z w64 c.loop-row.y-bits) c.in-Some.row (read (read c.in-Some.row +ℤ pos 1)) next found.0 high

pub loop-row-preserved : goal.loop-row-preserved
loop-row-preserved c =
    let box = c.args.bounds.now in
    let near = (pattern_box c.args.first.now box c.requires.bounds).rows in
    let found = c.in-Some.ensures in
    let plane = plane_of c.args.first.now in
    let other = cells_of c.args.session.now in
    let within = row_within plane box c.requires.bounds found.1.x c.in-Some.row found.1.live in
    let low = within.0 in
    let high = within.1 in
    let row : read c.in-Some.row ≡ c.in-Some.row = to_z-of_z w64 c.in-Some.row (in_range_fits box.top box.bottom c.in-Some.row near low (omega (arith, ints, high))) in
    let next : read (read c.in-Some.row +ℤ pos 1) ≡ c.in-Some.row +ℤ pos 1 = ap (λ (z : ℤ). read (z +ℤ pos 1)) row
    ∙ to_z-of_z w64 (c.in-Some.row +ℤ pos 1) (in_range_fits box.top box.bottom (c.in-Some.row +ℤ pos 1) near (omega (arith, ints, low)) (omega (arith, ints, high))) in
    record {
      session = same_then {first = c.args.session.now} {second = c.loop-row.session} {third = c.has_moved_row.new.session} c.loop-row.invariant.session c.has_moved_row.ensures.session;
      low = omega (arith, ints, next, low);
      high = omega (arith, ints, next, high);
      above = subst (λ (z : ℤ). AreMovedAbove plane other (read c.args.right) (read c.args.down) z) (sym next)
          (row_added plane other (read c.args.right) (read c.args.down) (to_z w64 c.loop-row.y-bits) c.in-Some.row c.loop-row.invariant.above found.2
          (next_as plane (cells_of c.loop-row.session) other _ _ _ _ c.in-Some.row c.loop-row.invariant.session.cells row
          (on_true_from _ c.in_ok-has_moved_row.field-0 c.in_ok-has_moved_row.ensures.yes c.if-not-branch.false)));
    }

pub overflow_add-y-2 : goal.overflow_add-y-2
overflow_add-y-2 c =
    let box = c.args.bounds.now in
    let near = pattern_box c.args.first.now box c.requires.bounds in
    let there = session_box c.args.session.now (moved_bounds c.args.right c.args.down box) c.requires.moved in
    moved_fits box.top box.bottom c.args.down (to_z w64 c.loop-row.y-bits) (to_z w64 c.loop-row.y-bits) near.rows there.rows c.ranges.down c.loop-row.invariant.low c.loop-row.invariant.high

pub returns-clause-session : goal.returns-clause-session
returns-clause-session c =
    same_then {first = c.args.session.now} {second = c.loop-row.session} {third = c.first_row-2.new.self} c.loop-row.invariant.session c.first_row-2.ensures.same

pub returns-clause-yes : goal.returns-clause-yes
returns-clause-yes c =
    let box = c.args.bounds.now in
    let near = pattern_box c.args.first.now box c.requires.bounds in
    let there = session_box c.args.session.now (moved_bounds c.args.right c.args.down box) c.requires.moved in
    let y : ℤ = to_z w64 c.loop-row.y-bits in
    let plane = plane_of c.args.first.now in
    let other = cells_of c.args.session.now in
    let found : Option ℤ = c.in_ok-first_row.field-0 in
    let at : read (y +ℤ read c.args.down) ≡ y +ℤ read c.args.down = to_z-of_z w64 (y +ℤ read c.args.down) (moved_fits box.top box.bottom c.args.down y y near.rows there.rows c.ranges.down c.loop-row.invariant.low c.loop-row.invariant.high) in
    let whole : IsSameSession c.args.session.now c.first_row-2.new.self = same_then {first = c.args.session.now} {second = c.loop-row.session} {third = c.first_row-2.new.self} c.loop-row.invariant.session c.first_row-2.ensures.same in
    on_true _ c.is_none.result (λ none.
    subst (λ (d : ℤ). IsSame other (moved c.args.right d plane)) (to_z-of_z w64 c.args.down c.ranges.down)
    (subst (λ (r : ℤ). IsSame other (moved r (read c.args.down) plane)) (to_z-of_z w64 c.args.right c.ranges.right)
    (all_rows plane other (read c.args.right) (read c.args.down) y c.loop-row.invariant.above c.in_default.ensures
    (subst (λ (o : Option ℤ). IsFirstRow other (y +ℤ read c.args.down) o) (none_of found c.is_none.result c.is_none.ensures none)
    (first_row_as _ other _ _ found whole.cells at c.in_ok-first_row.ensures.ok)))))

pub returns-clause-no : goal.returns-clause-no
returns-clause-no c =
    let box = c.args.bounds.now in
    let near = pattern_box c.args.first.now box c.requires.bounds in
    let there = session_box c.args.session.now (moved_bounds c.args.right c.args.down box) c.requires.moved in
    let y : ℤ = to_z w64 c.loop-row.y-bits in
    let plane = plane_of c.args.first.now in
    let other = cells_of c.args.session.now in
    let found : Option ℤ = c.in_ok-first_row.field-0 in
    let at : read (y +ℤ read c.args.down) ≡ y +ℤ c.args.down = to_z-of_z w64 (y +ℤ read c.args.down) (moved_fits box.top box.bottom c.args.down y y near.rows there.rows c.ranges.down c.loop-row.invariant.low c.loop-row.invariant.high)
    ∙ ap (λ (z : ℤ). y +ℤ z) (to_z-of_z w64 c.args.down c.ranges.down) in
    let whole : IsSameSession c.args.session.now c.first_row-2.new.self = same_then {first = c.args.session.now} {second = c.loop-row.session} {third = c.first_row-2.new.self} c.loop-row.invariant.session c.first_row-2.ensures.same in
    on_false _ c.is_none.result (λ some same.
    some_of found c.is_none.result c.is_none.ensures some
    (no_row_moved plane other c.args.right c.args.down y found same c.in_default.ensures (first_row_as _ other _ _ found whole.cells at c.in_ok-first_row.ensures.ok)))
