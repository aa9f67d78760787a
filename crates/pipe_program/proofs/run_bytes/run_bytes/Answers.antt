use Rattle.std.proofs.Common.{◌≡◌, ℤ, pos, ◌+ℤ◌, ◌≤ℤ◌, ◌<ℤ◌, SFits, of_z, to_z, w64, rules, sym, ◌∙◌, ap, subst, arith}
use Rattle.std.proofs.lemmas.Int.{ints, to_z-of_z}
use Rattle.plane.specs.Plane.{Plane}
use Rattle.plane.specs.declared.cell.Bounds.{Bounds}
use Rattle.viewport.specs.BoundingBox.{HasBounds}
use Rattle.engine.specs.Sessions.{cells_of}
use Rattle.engine.proofs.Sessions.{same_then}
use Rattle.pipe_program.specs.RunBytes.{AreRunBytes}
use Rattle.pipe_program.proofs.RowsOfRuns.{AreRunsAbove, above_as, all_of_box, all_read, next_fits, no_runs, none_above, row_fits, row_read}
use Rattle.pipe_program.proofs.run_bytes.run_bytes.Goals as goal

pub returns-in_default-clause-ok : goal.returns-in_default-clause-ok
returns-in_default-clause-ok c =
    let plane : Plane = cells_of c.args.session.now in
    subst (AreRunBytes plane) (sym c.new-bytes.ensures.items) (no_runs plane (subst (HasBounds plane) c.in_default.is c.in_ok-bounds.ensures.ok))

pub loop-bytes-init : goal.loop-bytes-init
loop-bytes-init c =
    let plane : Plane = cells_of c.args.session.now in
    let box : Bounds = c.in-Some.bounds in
    let top : to_z w64 (of_z w64 box.top) ≡ box.top = to_z-of_z w64 box.top (search rules) in
    record {
      session = c.bounds.ensures.same;
      above = above_as plane (to_z w64 (of_z w64 box.top)) box.top c.new-bytes.result.items top
          (subst (AreRunsAbove plane box.top) (sym c.new-bytes.ensures.items) (none_above plane box (subst (HasBounds plane) c.in-Some.is c.in_ok-bounds.ensures.ok)));
    }

pub returns-then-row-bounds-clause-ok : goal.returns-then-row-bounds-clause-ok
returns-then-row-bounds-clause-ok c =
    let plane : Plane = cells_of c.args.session.now in
    let box : Bounds = c.in-Some.bounds in
    let row : ℤ = c.in-Some-2.row in
    let has = subst (HasBounds plane) c.in-Some.is c.in_ok-bounds.ensures.ok in
    let found = same_then {first = c.args.session.now} {second = c.loop-bytes.session} {third = c.first_row.new.self} c.loop-bytes.invariant.session c.first_row.ensures.same in
    let asked = same_then {first = c.args.session.now} {second = c.first_row.new.self} {third = c.row_runs.new.self} found c.row_runs.ensures.same in
    let fits_top : SFits w64 box.top = search rules in
    let fits_bottom : SFits w64 box.bottom = search rules in
    let bottom : to_z w64 (of_z w64 box.bottom) ≡ box.bottom = to_z-of_z w64 box.bottom fits_bottom in
    let read : to_z w64 (of_z w64 row) ≡ row = to_z-of_z w64 row (row_fits plane _ box _ row _ has found.cells c.in-Some-2.is c.in_ok-row.ensures.ok fits_top fits_bottom) in
    let low : box.bottom ≤ℤ row = let at_end = c.if-row-bounds.true in omega (arith, ints, at_end, read, bottom) in
    all_of_box plane box row c.push_runs.new.bytes.items has low
    (row_read plane _ _ _ row _ _ c.in_ok-runs.runs.items c.deref.result.now c.loop-bytes.bytes.items c.push_runs.new.bytes.items c.loop-bytes.invariant.above found.cells c.in-Some-2.is c.in_ok-row.ensures.ok read
    asked.cells c.in_ok-runs.ensures.ok c.deref.ensures.value c.in_ok-push_runs.ensures)

pub loop-bytes-preserved : goal.loop-bytes-preserved
loop-bytes-preserved c =
    let plane : Plane = cells_of c.args.session.now in
    let box : Bounds = c.in-Some.bounds in
    let row : ℤ = c.in-Some-2.row in
    let has = subst (HasBounds plane) c.in-Some.is c.in_ok-bounds.ensures.ok in
    let found = same_then {first = c.args.session.now} {second = c.loop-bytes.session} {third = c.first_row.new.self} c.loop-bytes.invariant.session c.first_row.ensures.same in
    let asked = same_then {first = c.args.session.now} {second = c.first_row.new.self} {third = c.row_runs.new.self} found c.row_runs.ensures.same in
    let fits_top : SFits w64 box.top = search rules in
    let fits_bottom : SFits w64 box.bottom = search rules in
    let bottom : to_z w64 (of_z w64 box.bottom) ≡ box.bottom = to_z-of_z w64 box.bottom fits_bottom in
    let fits : SFits w64 row = row_fits plane _ box _ row _ has found.cells c.in-Some-2.is c.in_ok-row.ensures.ok fits_top fits_bottom in
    let read : to_z w64 (of_z w64 row) ≡ row = to_z-of_z w64 row fits in
    let less : row <ℤ box.bottom = let before = c.if-row-bounds.false in omega (arith, ints, before, read, bottom) in
    let next : to_z w64 (of_z w64 (to_z w64 (of_z w64 row) +ℤ pos 1)) ≡ row +ℤ pos 1 = ap (λ (z : ℤ). to_z w64 (of_z w64 (z +ℤ pos 1))) read ∙ to_z-of_z w64 (row +ℤ pos 1) (next_fits row box.bottom fits fits_bottom less) in
    record {
      session = asked;
      above = above_as plane (to_z w64 (of_z w64 (to_z w64 (of_z w64 row) +ℤ pos 1))) (row +ℤ pos 1) c.push_runs.new.bytes.items next
          (row_read plane _ _ _ row _ _ c.in_ok-runs.runs.items c.deref.result.now c.loop-bytes.bytes.items c.push_runs.new.bytes.items c.loop-bytes.invariant.above found.cells c.in-Some-2.is c.in_ok-row.ensures.ok read
          asked.cells c.in_ok-runs.ensures.ok c.deref.ensures.value c.in_ok-push_runs.ensures);
    }

pub returns-clause-ok : goal.returns-clause-ok
returns-clause-ok c =
    let plane : Plane = cells_of c.args.session.now in
    let found = same_then {first = c.args.session.now} {second = c.loop-bytes.session} {third = c.first_row.new.self} c.loop-bytes.invariant.session c.first_row.ensures.same in
    all_read plane _ _ _ c.loop-bytes.bytes.items c.loop-bytes.invariant.above found.cells c.in_default-2.is c.in_ok-row.ensures.ok
