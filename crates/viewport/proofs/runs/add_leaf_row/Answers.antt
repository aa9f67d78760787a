use Rattle.std.proofs.Common.{◌≡◌, ◌<◌, ◌+◌, ◌+ℤ◌, sym, subst, arith, rules, w64, SFits}
use Rattle.std.specs.Int.{trailing_zeros}
use Rattle.std.proofs.lemmas.Int.{to_z-of_z}
use Rattle.viewport.proofs.RowsOfSquares.{column_fits}
use Rattle.viewport.proofs.RunsOfLeaves.{AreTaken, HasRun, all_of_row, before_run, first_run, none_taken_yet, run_room, run_taken}
use Rattle.viewport.proofs.runs.add_leaf_row.Goals as goal

pub loop-rest-init : goal.loop-rest-init
loop-rest-init c =
    let left : SFits w64 c.args.left = c.ranges.left in
    simp to_z-of_z (none_taken_yet c.args.word c.args.y c.args.left c.args.runs.now.items c.requires.before)

pub add_run-requires-clause-some : goal.add_run-requires-clause-some
add_run-requires-clause-some c =
    let left : SFits w64 c.args.left = c.ranges.left in
    let here = to_z-of_z w64 c.args.left left in
    let dead = trailing_zeros w64 c.loop-rest.rest in
    let live = c.trailing_ones-live.result in
    let taken = rw here at c.loop-rest.invariant in
    let some : 0 < c.loop-rest.rest = omega (arith, c.loop-rest-test.true) in
    let run : HasRun c.args.word c.args.y c.loop-rest.x c.loop-rest.rest dead live = subst (HasRun c.args.word c.args.y c.loop-rest.x c.loop-rest.rest dead) (sym c.trailing_ones-live.ensures) (first_run c.args.word c.args.y c.loop-rest.x c.loop-rest.rest taken.rest_is some) in
    rw c.from-in-loop-rest.ensures run.some

pub add_run-requires-clause-room : goal.add_run-requires-clause-room
add_run-requires-clause-room c =
    let left : SFits w64 c.args.left = c.ranges.left in
    let here = to_z-of_z w64 c.args.left left in
    let dead = trailing_zeros w64 c.loop-rest.rest in
    let live = c.trailing_ones-live.result in
    let taken = rw here at c.loop-rest.invariant in
    let some : 0 < c.loop-rest.rest = omega (arith, c.loop-rest-test.true) in
    let run : HasRun c.args.word c.args.y c.loop-rest.x c.loop-rest.rest dead live = subst (HasRun c.args.word c.args.y c.loop-rest.x c.loop-rest.rest dead) (sym c.trailing_ones-live.ensures) (first_run c.args.word c.args.y c.loop-rest.x c.loop-rest.rest taken.rest_is some) in
    let inside = run.within in
    let wide = run.some in
    let place = c.from.ensures in
    let count = c.from-in-loop-rest.ensures in
    let offset : SFits w64 c.from.result = search rules in
    let column : SFits w64 (c.args.left +ℤ c.from.result) = column_fits c.args.left c.from.result (c.loop-rest.x + dead) left place (omega (arith, inside, wide)) c.requires.room in
    rw (here, to_z-of_z w64 c.from.result offset, to_z-of_z w64 (c.args.left +ℤ c.from.result) column, place, count) (run_room c.args.left c.loop-rest.x dead live run.within c.requires.room)

pub add_run-requires-clause-before : goal.add_run-requires-clause-before
add_run-requires-clause-before c =
    let left : SFits w64 c.args.left = c.ranges.left in
    let here = to_z-of_z w64 c.args.left left in
    let dead = trailing_zeros w64 c.loop-rest.rest in
    let live = c.trailing_ones-live.result in
    let taken = rw here at c.loop-rest.invariant in
    let some : 0 < c.loop-rest.rest = omega (arith, c.loop-rest-test.true) in
    let run : HasRun c.args.word c.args.y c.loop-rest.x c.loop-rest.rest dead live = subst (HasRun c.args.word c.args.y c.loop-rest.x c.loop-rest.rest dead) (sym c.trailing_ones-live.ensures) (first_run c.args.word c.args.y c.loop-rest.x c.loop-rest.rest taken.rest_is some) in
    let inside = run.within in
    let wide = run.some in
    let place = c.from.ensures in
    let count = c.from-in-loop-rest.ensures in
    let offset : SFits w64 c.from.result = search rules in
    let column : SFits w64 (c.args.left +ℤ c.from.result) = column_fits c.args.left c.from.result (c.loop-rest.x + dead) left place (omega (arith, inside, wide)) c.requires.room in
    rw (here, to_z-of_z w64 c.from.result offset, to_z-of_z w64 (c.args.left +ℤ c.from.result) column, place) (before_run c.args.word c.args.y c.loop-rest.x c.loop-rest.rest dead live c.args.left c.args.runs.now.items c.loop-rest.runs.items c.requires.row taken run).end

pub loop-rest-smaller : goal.loop-rest-smaller
loop-rest-smaller c =
    let left : SFits w64 c.args.left = c.ranges.left in
    let here = to_z-of_z w64 c.args.left left in
    let dead = trailing_zeros w64 c.loop-rest.rest in
    let live = c.trailing_ones-live.result in
    let taken = rw here at c.loop-rest.invariant in
    let some : 0 < c.loop-rest.rest = omega (arith, c.loop-rest-test.true) in
    let run : HasRun c.args.word c.args.y c.loop-rest.x c.loop-rest.rest dead live = subst (HasRun c.args.word c.args.y c.loop-rest.x c.loop-rest.rest dead) (sym c.trailing_ones-live.ensures) (first_run c.args.word c.args.y c.loop-rest.x c.loop-rest.rest taken.rest_is some) in
    let inside = run.within in
    let wide = run.some in
    omega (arith, inside, wide)

pub loop-rest-preserved : goal.loop-rest-preserved
loop-rest-preserved c =
    let left : SFits w64 c.args.left = c.ranges.left in
    let here = to_z-of_z w64 c.args.left left in
    let dead = trailing_zeros w64 c.loop-rest.rest in
    let live = c.trailing_ones-live.result in
    let taken = rw here at c.loop-rest.invariant in
    let some : 0 < c.loop-rest.rest = omega (arith, c.loop-rest-test.true) in
    let run : HasRun c.args.word c.args.y c.loop-rest.x c.loop-rest.rest dead live = subst (HasRun c.args.word c.args.y c.loop-rest.x c.loop-rest.rest dead) (sym c.trailing_ones-live.ensures) (first_run c.args.word c.args.y c.loop-rest.x c.loop-rest.rest taken.rest_is some) in
    let inside = run.within in
    let wide = run.some in
    let place = c.from.ensures in
    let count = c.from-in-loop-rest.ensures in
    let offset : SFits w64 c.from.result = search rules in
    let column : SFits w64 (c.args.left +ℤ c.from.result) = column_fits c.args.left c.from.result (c.loop-rest.x + dead) left place (omega (arith, inside, wide)) c.requires.room in
    let added = rw (here, to_z-of_z w64 c.from.result offset, to_z-of_z w64 (c.args.left +ℤ c.from.result) column, place, count) at c.in_ok-add_run.ensures.ok in
    rw here (run_taken c.args.word c.args.y c.loop-rest.x c.loop-rest.rest dead live c.args.left c.args.runs.now.items c.loop-rest.runs.items c.add_run.new.runs.items c.requires.row taken run added)

pub returns : goal.returns
returns c =
    let left : SFits w64 c.args.left = c.ranges.left in
    let here = to_z-of_z w64 c.args.left left in
    let taken = rw here at c.loop-rest.invariant in
    let none : c.loop-rest.rest ≡ 0 = omega (arith, c.loop-rest-test.false) in
    record {
      ok = all_of_row c.args.word c.args.y c.loop-rest.x c.args.left c.args.runs.now.items c.loop-rest.runs.items c.requires.row
          (subst (λ rest. AreTaken c.args.word c.args.y c.loop-rest.x rest c.args.left c.args.runs.now.items c.loop-rest.runs.items) none taken);
    }
