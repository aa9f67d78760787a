use Rattle.std.proofs.Common.{flat_map, Vec, Global, ap, ◌∙◌}
use Rattle.plane.specs.Centred.{centred}
use Rattle.plane.proofs.Uniqueness.{one_listing_lem}
use Rattle.pattern_writers.specs.Items.{items_of}
use Rattle.pattern_writers.specs.RowRuns.{runs_of}
use Rattle.pattern_writers.specs.declared.rle_text.row_run.RowRun.{RowRun}
use Rattle.pattern_writers.proofs.rle_text.framing.framed_items.Goals as goal

pub returns-clause-ok : goal.returns-clause-ok
returns-clause-ok g c =
    let plane = centred c.args.sq.level ((g.B.Look.book c.args.book.now).cells c.args.sq) in
    let framed = c.in_ok-frame.ensures.frame in
    let ran = c.in_ok-bands.ensures in
    let same = one_listing_lem plane ran.cells framed.cells ran.listing framed.listing in
    let frame = c.in_ok-frame.frame in
    record {
      cells = framed.cells;
      listing = framed.listing;
      fits = framed.fits;
      frame_is = framed.frame_is;
      items_is = c.in_ok-items.ensures ∙ ap (items_of frame.corner.x frame.corner) (ap (flat_map (λ (band : Vec RowRun Global). band.items)) c.as_slice.ensures.value ∙ ran.runs_is ∙ ap runs_of same);
    }
