use Rattle.std.proofs.Common.{inr, rules, subst}
use Rattle.std.specs.Io.KnownBytes.{Appends}
use Rattle.std.proofs.lemmas.Result.{IfErr-weaker, on_ok_weaker}
use Rattle.plane.proofs.Beginnings.{beginning_as}
use Rattle.pattern_writers.proofs.BlocksOut.{both_err}
use Rattle.pattern_writers.proofs.WholeText.{whole_text}
use Rattle.pattern_writers.proofs.WrittenReadBack.{rle_written_read}
use Rattle.pattern_writers.proofs.rle_text.write_rle.Goals as goal

pub returns-clause-written : goal.returns-clause-written
returns-clause-written g c =
    let framed = c.in_ok-frame.ensures.ok in
    on_ok_weaker c.write_items.result
    (λ wrote. record {
      cells = framed.cells;
      listing = framed.listing;
      fits = framed.fits;
      appends = subst (Appends (g.V.Sink.taken c.args.file.now) (g.V.Sink.taken c.write_items.new.file)) (whole_text _ _ _ framed.cells _ _ framed.frame_is framed.items_is) wrote;
    })
    (rw c.as_slice.ensures.value at c.write_items.ensures.written)

pub returns-clause-read_back : goal.returns-clause-read_back
returns-clause-read_back g c = on_ok_weaker c.write_items.result (λ writes. rle_written_read _ _ _ _ _ _ writes) (returns-clause-written g c)

pub returns-in_err-frame-clause-refused : goal.returns-in_err-frame-clause-refused
returns-in_err-frame-clause-refused g c = search rules

pub returns-clause-refused : goal.returns-clause-refused
returns-clause-refused g c =
    let framed = c.in_ok-frame.ensures.ok in
    let failed = both_err _ _ c.write_items.result c.write_items.ensures.failure.refused (rw c.as_slice.ensures.value at c.write_items.ensures.beginning) in
    IfErr-weaker c.write_items.result _ _
    (λ refusal told. inr (inr (
      told.0,
      record {
        cells = framed.cells;
        listing = framed.listing;
        fits = framed.fits;
        beginning = beginning_as (whole_text _ _ _ framed.cells _ _ framed.frame_is framed.items_is) told.1;
      },
    )))
    failed
