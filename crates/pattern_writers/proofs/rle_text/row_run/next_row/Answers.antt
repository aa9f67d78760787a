use Rattle.std.proofs.Common.{◌<ℤ◌, Some, SFits, arith, w64}
use Rattle.std.proofs.lemmas.Int.{ints, to_z-of_z}
use Rattle.plane.specs.Centred.{centred}
use Rattle.viewport.specs.Rows.{IsFirstRow}
use Rattle.pattern_writers.proofs.RowsBetween.{first_between}
use Rattle.pattern_writers.proofs.RowsDown.{coordinate_fits, live_in_range, square_in_range}
use Rattle.pattern_writers.proofs.rle_text.row_run.next_row.Goals as goal

pub returns-then-row-end : goal.returns-then-row-end
returns-then-row-end g c =
    let book = g.B.Look.book c.args.book.now in
    let plane = centred c.args.sq.level (book.cells c.args.sq) in
    let held = square_in_range book c.args.sq (g.met.B.Look.is_book c.args.book.now) c.requires.known c.requires.level in
    let start = to_z-of_z w64 c.args.from c.ranges.from in
    let stop = to_z-of_z w64 c.args.end c.ranges.end in
    let first : IsFirstRow plane c.args.from (Some c.in_ok-row.row) = rw start at c.in_ok-row.ensures in
    let fits : SFits w64 c.in_ok-row.row = coordinate_fits c.in_ok-row.row (live_in_range plane first.1.x c.in_ok-row.row held first.1.live).1 in
    let row = to_z-of_z w64 c.in_ok-row.row fits in
    let test = rw (row, stop) at c.if-row-end.true in
    let below : c.in_ok-row.row <ℤ c.args.end = grind (arith, ints, test) in
    rw row (first_between c.args.from c.args.end plane c.in_ok-row.row first below)
