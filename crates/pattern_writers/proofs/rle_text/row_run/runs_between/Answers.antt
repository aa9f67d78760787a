use Rattle.std.proofs.Common.{◌≡◌, ◌+ℤ◌, pos, ◌<◌, ℤ, Option, None, rules, flat_map, sym, subst, arith, SFits, w64}
use Rattle.std.proofs.lemmas.Int.{to_z-of_z, ints}
use Rattle.plane.specs.Centred.{centred}
use Rattle.pattern_writers.specs.RowRuns.{rows_between}
use Rattle.pattern_writers.proofs.ItemReading.{run_cells}
use Rattle.pattern_writers.proofs.RowsBetween.{adds_between, between_held, first_later, live_between, none_above}
use Rattle.pattern_writers.proofs.RowsDown.{AreRunsSoFar, all_runs, coordinate_fits, fewer_rows, live_in_range, next_fits, next_row, no_runs, row_added, rows_left, square_in_range}
use Rattle.pattern_writers.proofs.rle_text.row_run.runs_between.Goals as goal

pub loop-next-init : goal.loop-next-init
loop-next-init g c =
    let book = g.B.Look.book c.args.book.now in
    let plane = centred c.args.sq.level (book.cells c.args.sq) in
    let band = rows_between c.args.from c.args.end plane in
    let start = to_z-of_z w64 c.args.from c.ranges.from in
    let stop = to_z-of_z w64 c.args.end c.ranges.end in
    rw (start, stop) (next_row band c.args.from c.next_row-next.result c.new-runs.result.items
    (no_runs band c.args.from c.new-runs.result.items (none_above c.args.from c.args.end plane) c.new-runs.ensures.items) (rw (start, stop) at c.next_row-next.ensures))

pub overflow_add-row : goal.overflow_add-row
overflow_add-row g c =
    let book = g.B.Look.book c.args.book.now in
    let plane = centred c.args.sq.level (book.cells c.args.sq) in
    let band = rows_between c.args.from c.args.end plane in
    let start = to_z-of_z w64 c.args.from c.ranges.from in
    let stop = to_z-of_z w64 c.args.end c.ranges.end in
    let held = between_held c.args.from c.args.end plane (square_in_range book c.args.sq (g.met.B.Look.is_book c.args.book.now) c.requires.known c.requires.level) in
    let far = subst (λ o. AreRunsSoFar band o c.loop-next.runs.items) c.in-Some.is (rw (start, stop) at c.loop-next.invariant) in
    let here = live_in_range band far.1.x c.in-Some.row held far.1.live in
    let fits_here : SFits w64 c.in-Some.row = coordinate_fits c.in-Some.row here.1 in
    let fits : SFits w64 (c.in-Some.row +ℤ pos 1) = next_fits c.in-Some.row here.1 in
    simp to_z-of_z fits

pub loop-next-preserved : goal.loop-next-preserved
loop-next-preserved g c =
    let book = g.B.Look.book c.args.book.now in
    let plane = centred c.args.sq.level (book.cells c.args.sq) in
    let band = rows_between c.args.from c.args.end plane in
    let start = to_z-of_z w64 c.args.from c.ranges.from in
    let stop = to_z-of_z w64 c.args.end c.ranges.end in
    let held = between_held c.args.from c.args.end plane (square_in_range book c.args.sq (g.met.B.Look.is_book c.args.book.now) c.requires.known c.requires.level) in
    let far = subst (λ o. AreRunsSoFar band o c.loop-next.runs.items) c.in-Some.is (rw (start, stop) at c.loop-next.invariant) in
    let here = live_in_range band far.1.x c.in-Some.row held far.1.live in
    let fits_here : SFits w64 c.in-Some.row = coordinate_fits c.in-Some.row here.1 in
    let fits : SFits w64 (c.in-Some.row +ℤ pos 1) = next_fits c.in-Some.row here.1 in
    let row = to_z-of_z w64 c.in-Some.row fits_here in
    let below = to_z-of_z w64 (c.in-Some.row +ℤ pos 1) fits in
    let at = live_between c.args.from c.args.end plane far.1.x c.in-Some.row far.1.live in
    let later = first_later c.args.from (c.in-Some.row +ℤ pos 1) c.args.end plane c.next_row-next-in-Some.result (omega (arith, ints, at.low)) (rw (row, below, stop) at c.next_row-next-in-Some.ensures) in
    rw (start, stop) (next_row band (c.in-Some.row +ℤ pos 1) c.next_row-next-in-Some.result c.add_row.new.runs.items
    (row_added band c.in-Some.row c.loop-next.runs.items c.add_row.new.runs.items far.0
    (adds_between c.args.from c.args.end plane c.in-Some.row c.loop-next.runs.items c.add_row.new.runs.items at (rw row at c.in_ok-add_row.ensures)))
    later)

pub loop-next-smaller : goal.loop-next-smaller
loop-next-smaller g c =
    let book = g.B.Look.book c.args.book.now in
    let plane = centred c.args.sq.level (book.cells c.args.sq) in
    let band = rows_between c.args.from c.args.end plane in
    let start = to_z-of_z w64 c.args.from c.ranges.from in
    let stop = to_z-of_z w64 c.args.end c.ranges.end in
    let held = between_held c.args.from c.args.end plane (square_in_range book c.args.sq (g.met.B.Look.is_book c.args.book.now) c.requires.known c.requires.level) in
    let far = subst (λ o. AreRunsSoFar band o c.loop-next.runs.items) c.in-Some.is (rw (start, stop) at c.loop-next.invariant) in
    let here = live_in_range band far.1.x c.in-Some.row held far.1.live in
    let fits_here : SFits w64 c.in-Some.row = coordinate_fits c.in-Some.row here.1 in
    let fits : SFits w64 (c.in-Some.row +ℤ pos 1) = next_fits c.in-Some.row here.1 in
    let row = to_z-of_z w64 c.in-Some.row fits_here in
    let below = to_z-of_z w64 (c.in-Some.row +ℤ pos 1) fits in
    let at = live_between c.args.from c.args.end plane far.1.x c.in-Some.row far.1.live in
    let later = first_later c.args.from (c.in-Some.row +ℤ pos 1) c.args.end plane c.next_row-next-in-Some.result (omega (arith, ints, at.low)) (rw (row, below, stop) at c.next_row-next-in-Some.ensures) in
    let fewer = fewer_rows band c.in-Some.row c.next_row-next-in-Some.result held far.1 later in
    subst (λ (o : Option ℤ). rows_left c.next_row-next-in-Some.result < rows_left o) (sym c.in-Some.is) fewer

pub returns : goal.returns
returns g c =
    let book = g.B.Look.book c.args.book.now in
    let plane = centred c.args.sq.level (book.cells c.args.sq) in
    let band = rows_between c.args.from c.args.end plane in
    let start = to_z-of_z w64 c.args.from c.ranges.from in
    let stop = to_z-of_z w64 c.args.end c.ranges.end in
    let none : c.loop-next.next ≡ None = search rules in
    let all = all_runs band c.loop-next.runs.items (subst (λ o. AreRunsSoFar band o c.loop-next.runs.items) none (rw (start, stop) at c.loop-next.invariant)) in
    record { cells = flat_map run_cells c.loop-next.runs.items; listing = all.0; runs_is = all.1 }
