use Rattle.plane.specs.Centred.{centred}
use Rattle.pattern_writers.proofs.BandsDown.{framed, framed_room}
use Rattle.pattern_writers.proofs.RowsDown.{square_in_range}
use Rattle.pattern_writers.proofs.rle_text.framing.cells_frame.Goals as goal

pub returns-clause-frame : goal.returns-clause-frame
returns-clause-frame g c =
    let plane = centred c.args.sq.level ((g.B.Look.book c.args.book.now).cells c.args.sq) in
    framed plane c.in_ok-bounds.field-0 c.of.result c.in_ok-bounds.ensures.ok c.of.ensures.frame c.of.ensures.fits.0

pub returns-clause-room : goal.returns-clause-room
returns-clause-room g c =
    let book = g.B.Look.book c.args.book.now in
    let plane = centred c.args.sq.level (book.cells c.args.sq) in
    let held = square_in_range book c.args.sq (g.met.B.Look.is_book c.args.book.now) c.requires.known c.requires.level in
    framed_room plane c.of.result held (framed plane c.in_ok-bounds.field-0 c.of.result c.in_ok-bounds.ensures.ok c.of.ensures.frame c.of.ensures.fits.0)
