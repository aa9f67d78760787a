use Rattle.std.proofs.Common.{pos, ◌-ℤ◌, arith, rules, w64, SFits}
use Rattle.std.proofs.lemmas.Int.{to_z-of_z, ints}
use Rattle.viewport.proofs.Quarters.{known_square}
use Rattle.viewport.proofs.RowsOfSquares.{centred_runs, no_runs_outside, room_there}
use Rattle.viewport.proofs.runs.row_runs.Goals as goal

pub returns-in_default-clause-ok : goal.returns-in_default-clause-ok
returns-in_default-clause-ok g c =
    let book = g.B.Look.book c.args.book.now in
    let y : SFits w64 c.args.y = c.ranges.y in
    let square = known_square book c.args.sq.level c.args.sq (g.met.B.Look.is_book c.args.book.now) c.requires.known in
    rw c.new-runs.ensures.items (no_runs_outside c.args.sq.level (book.cells c.args.sq) c.args.y square (simp to_z-of_z at c.in_default.ensures))

pub add_row-requires-clause-room : goal.add_row-requires-clause-room
add_row-requires-clause-room g c =
    let half : SFits w64 c.signed_half_side.result = search rules in
    let small = c.signed_half_side.ensures.small in
    let back : SFits w64 (pos 0 -ℤ c.signed_half_side.result) = rw c.signed_half_side.ensures.side (omega (arith, ints, small)) in
    simp to_z-of_z (simp c.signed_half_side.ensures.side (room_there c.args.sq.level (omega arith) small))

pub returns-clause-ok : goal.returns-clause-ok
returns-clause-ok g c =
    let book = g.B.Look.book c.args.book.now in
    let half : SFits w64 c.signed_half_side.result = search rules in
    let small = c.signed_half_side.ensures.small in
    let back : SFits w64 (pos 0 -ℤ c.signed_half_side.result) = rw c.signed_half_side.ensures.side (omega (arith, ints, small)) in
    let y : SFits w64 c.args.y = c.ranges.y in
    let row = simp to_z-of_z at c.in-Some.ensures.0 in
    let adds = rw c.new-runs.ensures.items at (simp c.signed_half_side.ensures.side at (simp to_z-of_z at c.in_ok-add_row.ensures.ok)) in
    centred_runs c.args.sq.level (book.cells c.args.sq) c.args.y c.in-Some.row c.add_row.new.runs.items row adds
