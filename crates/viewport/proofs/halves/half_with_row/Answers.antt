use Rattle.std.proofs.Common.{◌+◌, ◌<◌, sym, arith}
use Rattle.plane.proofs.Paddings.{twice_half}
use Rattle.viewport.proofs.HalvesOfSquares.{picked_half, row_of_half}
use Rattle.viewport.proofs.Quarters.{quartered_by}
use Rattle.viewport.proofs.halves.half_with_row.Goals as goal

pub returns-clause-row : goal.returns-clause-row
returns-clause-row g c =
    let book = g.B.Look.book c.args.book.now in
    let quarters = quartered_by book c.args.sq c.parts.result _ (g.met.B.Look.is_book c.args.book.now) c.requires.known c.requires.low c.parts.ensures c.half_side.ensures.value in
    let low = c.requires.low in
    let twice = twice_half c.args.sq.level (omega (arith, low)) in
    let side = c.half_side.ensures.value in
    let row = c.requires.row in
    let inside : c.args.y < c.half_side.result + c.half_side.result = omega (arith, twice, side, row) in
    rw (sym side)
    (row_of_half _ _ _ _ _ _ (picked_half c.half_side.result c.half_side.result (book.cells c.args.sq) book.cells c.parts.result c.args.y c.half_of.result inside quarters c.half_of.ensures.upper c.half_of.ensures.lower))
