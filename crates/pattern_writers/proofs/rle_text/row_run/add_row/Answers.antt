use Rattle.std.proofs.Common.{◌≡◌, [], ◌∷◌, ◌++◌, pos, map, get_or, rules, sym, subst, ap, ◌∙◌, SFits, w64}
use Rattle.std.proofs.lemmas.Int.{to_z-of_z}
use Rattle.std.proofs.lemmas.List.{take_all}
use Rattle.plane.specs.Centred.{centred}
use Rattle.viewport.specs.RowRuns.{AreRowRuns}
use Rattle.pattern_writers.specs.RowRuns.{run_in}
use Rattle.pattern_writers.proofs.RowsDown.{run_more, runs_fit, square_in_range}
use Rattle.pattern_writers.proofs.rle_text.row_run.add_row.Goals as goal

pub in_row-requires : goal.in_row-requires
in_row-requires g c =
    let book = g.B.Look.book c.args.book.now in
    let plane = centred c.args.sq.level (book.cells c.args.sq) in
    let held = square_in_range book c.args.sq (g.met.B.Look.is_book c.args.book.now) c.requires.known c.requires.level in
    let row : SFits w64 c.args.row = c.ranges.row in
    let of_row : AreRowRuns plane c.args.row c.deref-run-items.result.now = subst (AreRowRuns plane c.args.row) (sym c.deref-run-items.ensures.value) (rw (to_z-of_z w64 c.args.row row) at c.in-Ok.ensures.ok) in
    let fits = runs_fit plane c.args.row c.deref-run-items.result.now c.loop-run.run-index held of_row c.loop-run-test.true in
    rw (to_z-of_z w64 (get_or c.deref-run-items.result.now c.loop-run.run-index (pos 0, 0)).0 fits.first) fits.end

pub loop-run-preserved : goal.loop-run-preserved
loop-run-preserved g c =
    let book = g.B.Look.book c.args.book.now in
    let plane = centred c.args.sq.level (book.cells c.args.sq) in
    let held = square_in_range book c.args.sq (g.met.B.Look.is_book c.args.book.now) c.requires.known c.requires.level in
    let row : SFits w64 c.args.row = c.ranges.row in
    let here = to_z-of_z w64 c.args.row row in
    let runs = c.deref-run-items.result.now in
    let of_row : AreRowRuns plane c.args.row runs = subst (AreRowRuns plane c.args.row) (sym c.deref-run-items.ensures.value) (rw here at c.in-Ok.ensures.ok) in
    let fits = runs_fit plane c.args.row runs c.loop-run.run-index held of_row c.loop-run-test.true in
    let run : c.in_row.result ≡ run_in c.args.row (get_or runs c.loop-run.run-index (pos 0, 0)) =
    rw (here, to_z-of_z w64 (get_or runs c.loop-run.run-index (pos 0, 0)).0 fits.first) at c.in_row.ensures in
    let pushed : c.push.new.self.items ≡ c.loop-run.runs.items ++ c.in_row.result ∷ [] = search rules in
    rw here (run_more c.args.row c.args.runs.now.items c.loop-run.runs.items c.push.new.self.items runs c.loop-run.run-index c.in_row.result c.loop-run-test.true (rw here at c.loop-run.invariant) run pushed)

pub returns : goal.returns
returns g c =
    let book = g.B.Look.book c.args.book.now in
    let plane = centred c.args.sq.level (book.cells c.args.sq) in
    let row : SFits w64 c.args.row = c.ranges.row in
    let here = to_z-of_z w64 c.args.row row in
    let of_row : AreRowRuns plane c.args.row c.deref-run-items.result.now = subst (AreRowRuns plane c.args.row) (sym c.deref-run-items.ensures.value) (rw here at c.in-Ok.ensures.ok) in
    let all = take_all c.loop-run.run-index c.deref-run-items.result.now c.loop-run-test.false in
    record {
      runs = c.deref-run-items.result.now;
      of_row = of_row;
      added = (rw here at c.loop-run.invariant) ∙ ap (λ l. c.args.runs.now.items ++ map (run_in c.args.row) l) all;
    }
