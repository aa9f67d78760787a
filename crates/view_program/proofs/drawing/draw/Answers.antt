use Rattle.std.proofs.Common.{◌≡◌, Err, ap, arith, length, rules, refl, sym, ◌∙◌, subst}
use Rattle.std.proofs.result.Match.{err_is}
use Rattle.std.specs.Io.KnownBytes.{Appends}
use Rattle.plane.specs.Device.{AppendsBeginning, HasFailed}
use Rattle.plane.specs.Fault.{placeless}
use Rattle.plane.specs.declared.cell.Bounds.{Bounds}
use Rattle.plane.specs.declared.refusal.Refusal.TheVariants.{NoMemory}
use Rattle.engine.specs.Pattern.{plane_of}
use Rattle.pattern_picture.specs.Scale.{IsShown}
use Rattle.engine.proofs.BoxesInRange.{of_bounds}
use Rattle.view_program.specs.Drawn.{IsPictureOf}
use Rattle.view_program.specs.PictureLine.{picture_line}
use Rattle.view_program.proofs.RowsOfBlocks.{columns_fit, picture_drawn, rows_fit, shades-length}
use Rattle.view_program.proofs.ShownBoxes.{can_be_shown, shown_with}
use Rattle.view_program.proofs.Views.{ends_well, file_failed, first_line_failed, out_of_memory, refused_at_once, second_line_failed}
use Rattle.view_program.proofs.drawing.draw.Goals as goal

pub returns-in_err-last : goal.returns-in_err-last
returns-in_err-last g c =
    let is : c.from_residual.result ≡ Err c.in_err-last.field-0.0 = err_is _ _ c.from_residual.ensures.1 in
    rw is (refused_at_once c.args.bytes.now c.args.view.now c.args.name.now _ _ c.in_err-last.field-0.0 refl refl c.in_err-last.ensures.refused)

pub drawing_of-requires-clause-shown : goal.drawing_of-requires-clause-shown
drawing_of-requires-clause-shown g c =
    subst IsShown (sym c.rectangle_shown-shown.ensures)
    (can_be_shown c.args.view.now.window c.in_ok-last.summary.bounds c.requires.window (of_bounds IsShown shown_with c.in_ok-last.last c.in_ok-last.summary.bounds c.in_ok-last.ensures.ok.summary.bounds))

pub write_picture_line-requires-clause-shown : goal.write_picture_line-requires-clause-shown
write_picture_line-requires-clause-shown g c =
    subst IsShown (sym c.rectangle_shown-shown.ensures)
    (can_be_shown c.args.view.now.window c.in_ok-last.summary.bounds c.requires.window (of_bounds IsShown shown_with c.in_ok-last.last c.in_ok-last.summary.bounds c.in_ok-last.ensures.ok.summary.bounds))

pub returns-in_err-drawing : goal.returns-in_err-drawing
returns-in_err-drawing g c =
    let is : c.from_residual-in_err-drawing.result ≡ Err (placeless NoMemory) = search rules in
    rw is (refused_at_once c.args.bytes.now c.args.view.now c.args.name.now _ _ (placeless NoMemory) refl refl
    (out_of_memory c.args.bytes.now c.args.view.now (plane_of c.in_ok-last.last) c.in_ok-last.summary c.in_ok-last.ensures.ok))

pub zoomed-requires-clause-shades : goal.zoomed-requires-clause-shades
zoomed-requires-clause-shades g c =
    ap length c.as_slice.ensures.value
    ∙ shades-length (plane_of c.in_ok-last.last) _ c.args.view.now.size c.in_ok-drawing.drawing c.in_ok-drawing.ensures.drawn

pub zoomed-requires-clause-width : goal.zoomed-requires-clause-width
zoomed-requires-clause-width g c =
    columns_fit (plane_of c.in_ok-last.last) _ c.args.view.now.size c.in_ok-drawing.drawing c.in_ok-drawing.ensures.drawn c.requires.size

pub zoomed-requires-clause-height : goal.zoomed-requires-clause-height
zoomed-requires-clause-height g c =
    rows_fit (plane_of c.in_ok-last.last) _ c.args.view.now.size c.in_ok-drawing.drawing c.in_ok-drawing.ensures.drawn c.requires.size

pub returns-in_err-image : goal.returns-in_err-image
returns-in_err-image g c =
    let is : c.from_residual-in_err-image.result ≡ Err (placeless NoMemory) = search rules in
    rw is (refused_at_once c.args.bytes.now c.args.view.now c.args.name.now _ _ (placeless NoMemory) refl refl
    (out_of_memory c.args.bytes.now c.args.view.now (plane_of c.in_ok-last.last) c.in_ok-last.summary c.in_ok-last.ensures.ok))

pub returns-in_err-text : goal.returns-in_err-text
returns-in_err-text g c =
    let is : c.from_residual-in_err-text.result ≡ Err (placeless NoMemory) = search rules in
    rw is (refused_at_once c.args.bytes.now c.args.view.now c.args.name.now _ _ (placeless NoMemory) refl refl
    (out_of_memory c.args.bytes.now c.args.view.now (plane_of c.in_ok-last.last) c.in_ok-last.summary c.in_ok-last.ensures.ok))

pub returns-in_err-write_summary : goal.returns-in_err-write_summary
returns-in_err-write_summary g c =
    let view = c.args.view.now in
    let plane = plane_of c.in_ok-last.last in
    let answer = c.in_ok-last.summary in
    let image = c.in_ok-image.image in
    let drawn = picture_drawn plane _ view.size c.in_ok-drawing.drawing c.in_ok-drawing.ensures.drawn _ c.as_slice.ensures.value image c.in_ok-image.ensures.width c.in_ok-image.ensures.rows in
    let shows = subst (λ (box : Bounds). IsPictureOf plane box view.size image) c.rectangle_shown-shown.ensures drawn in
    let is : c.from_residual-in_err-write_summary.result ≡ Err (placeless c.in_err-write_summary.field-0.0) = err_is _ _ c.from_residual-in_err-write_summary.ensures.1 in
    let refused = c.in_err-write_summary.ensures.failure.refused in
    rw is (first_line_failed c.args.bytes.now view c.args.name.now _ _ plane answer c.in_ok-last.ensures.ok image shows c.in_err-write_summary.field-0.0 refused.0 refused.1 refl c.in_err-write_summary.ensures.beginning)

pub returns-in_err-write_picture_line : goal.returns-in_err-write_picture_line
unfolding picture_drawn
returns-in_err-write_picture_line g c =
    let view = c.args.view.now in
    let plane = plane_of c.in_ok-last.last in
    let answer = c.in_ok-last.summary in
    let image = c.in_ok-image.image in
    let same = c.rectangle_shown-shown.ensures in
    let drawn = picture_drawn plane _ view.size c.in_ok-drawing.drawing c.in_ok-drawing.ensures.drawn _ c.as_slice.ensures.value image c.in_ok-image.ensures.width c.in_ok-image.ensures.rows in
    let is : c.from_residual-in_err-write_picture_line.result ≡ Err (placeless c.in_err-write_picture_line.field-0.0) = err_is _ _ c.from_residual-in_err-write_picture_line.ensures.1 in
    let refused = c.in_err-write_picture_line.ensures.failure.refused in
    let failed = subst (λ n. HasFailed n (g.W.Sink.failure_count c.write_picture_line.new.out)) c.in_ok-write_summary.ensures.failure.unfailed refused.1 in
    let begun = subst (λ (box : Bounds). (shows : IsPictureOf plane box view.size image) × AppendsBeginning (g.W.Sink.taken c.write_summary.new.out) (g.W.Sink.taken c.write_picture_line.new.out) (picture_line c.args.name.now box shows.scale)) same
    (drawn, c.in_err-write_picture_line.ensures.beginning) in
    rw is (second_line_failed c.args.bytes.now view c.args.name.now _ _ plane answer c.in_ok-last.ensures.ok image begun.0 (g.W.Sink.taken c.write_summary.new.out) c.in_ok-write_summary.ensures.written
    c.in_err-write_picture_line.field-0.0 refused.0 failed refl begun.1)

pub returns-in_err-write_all : goal.returns-in_err-write_all
unfolding picture_drawn
returns-in_err-write_all g c =
    let view = c.args.view.now in
    let plane = plane_of c.in_ok-last.last in
    let answer = c.in_ok-last.summary in
    let image = c.in_ok-image.image in
    let same = c.rectangle_shown-shown.ensures in
    let drawn = picture_drawn plane _ view.size c.in_ok-drawing.drawing c.in_ok-drawing.ensures.drawn _ c.as_slice.ensures.value image c.in_ok-image.ensures.width c.in_ok-image.ensures.rows in
    let line = subst (λ (box : Bounds). (shows : IsPictureOf plane box view.size image) × Appends (g.W.Sink.taken c.write_summary.new.out) (g.W.Sink.taken c.write_picture_line.new.out) (picture_line c.args.name.now box shows.scale)) same
    (drawn, c.in_ok-write_picture_line.ensures.written) in
    let is : c.from_residual-in_err-write_all.result ≡ Err (placeless c.in_err-write_all.field-0.0) = err_is _ _ c.from_residual-in_err-write_all.ensures.1 in
    let text = c.in_ok-text.text.items in
    let begun = subst (AppendsBeginning (g.V.Sink.taken c.args.file.now) (g.V.Sink.taken c.write_all.new.sink)) c.as_slice-2.ensures.value c.in_err-write_all.ensures.beginning in
    let unfailed = c.in_ok-write_picture_line.ensures.failure.unfailed ∙ c.in_ok-write_summary.ensures.failure.unfailed in
    rw is (file_failed c.args.bytes.now view c.args.name.now _ _ plane answer c.in_ok-last.ensures.ok image line.0 (g.W.Sink.taken c.write_summary.new.out) c.in_ok-write_summary.ensures.written line.1 unfailed
    c.in_err-write_all.field-0.0 c.in_err-write_all.ensures.failure.refused.0 c.in_err-write_all.ensures.failure.refused.1 (text, c.in_ok-text.ensures.ok, begun))

pub returns : goal.returns
unfolding picture_drawn
returns g c =
    let view = c.args.view.now in
    let plane = plane_of c.in_ok-last.last in
    let answer = c.in_ok-last.summary in
    let image = c.in_ok-image.image in
    let same = c.rectangle_shown-shown.ensures in
    let drawn = picture_drawn plane _ view.size c.in_ok-drawing.drawing c.in_ok-drawing.ensures.drawn _ c.as_slice.ensures.value image c.in_ok-image.ensures.width c.in_ok-image.ensures.rows in
    let line = subst (λ (box : Bounds). (shows : IsPictureOf plane box view.size image) × Appends (g.W.Sink.taken c.write_summary.new.out) (g.W.Sink.taken c.write_picture_line.new.out) (picture_line c.args.name.now box shows.scale)) same
    (drawn, c.in_ok-write_picture_line.ensures.written) in
    ends_well c.args.bytes.now view c.args.name.now _ _ plane answer c.in_ok-last.ensures.ok image line.0 (g.W.Sink.taken c.write_summary.new.out) c.in_ok-write_summary.ensures.written line.1
    (c.in_ok-write_picture_line.ensures.failure.unfailed ∙ c.in_ok-write_summary.ensures.failure.unfailed) c.in_ok-write_all.ensures.failure.unfailed
    (c.in_ok-text.text.items, c.in_ok-text.ensures.ok, subst (Appends (g.V.Sink.taken c.args.file.now) (g.V.Sink.taken c.write_all.new.sink)) c.as_slice-2.ensures.value c.in_ok-write_all.ensures.written)

pub picture_file-requires : goal.picture_file-requires
picture_file-requires g c =
    let fit = rows_fit (plane_of c.in_ok-last.last) _ c.args.view.now.size c.in_ok-drawing.drawing c.in_ok-drawing.ensures.drawn c.requires.size in
    omega (arith, c.in_ok-image.ensures.height, fit.0)
