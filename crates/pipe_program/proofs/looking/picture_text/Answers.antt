use Rattle.std.proofs.Common.{◌≡◌, Bor, IfSome, Option, length, ap, subst, ◌∙◌}
use Rattle.std.proofs.lemmas.Result.{IfOk-weaker}
use Rattle.engine.specs.Pattern.{plane_of}
use Rattle.engine.specs.Sessions.{cells_of}
use Rattle.engine.specs.declared.pattern.Pattern.{Pattern}
use Rattle.plane.proofs.Same.{plane_equal}
use Rattle.view_program.proofs.RowsOfBlocks.{columns_fit, picture_drawn, rows_fit, shades-length}
use Rattle.pipe_program.proofs.ShownPatterns.{picture_of_cells}
use Rattle.pipe_program.proofs.looking.picture_text.Goals as goal

pub zoomed-requires-clause-shades : goal.zoomed-requires-clause-shades
zoomed-requires-clause-shades c = ap length c.as_slice.ensures.value ∙ shades-length _ _ _ c.in_ok-drawing.drawing c.in_ok-drawing.ensures.drawn

pub zoomed-requires-clause-width : goal.zoomed-requires-clause-width
zoomed-requires-clause-width c =
    columns_fit (plane_of c.in_ok-pattern.pattern.now) c.args.shown c.args.size c.in_ok-drawing.drawing c.in_ok-drawing.ensures.drawn c.requires

pub zoomed-requires-clause-height : goal.zoomed-requires-clause-height
zoomed-requires-clause-height c =
    rows_fit (plane_of c.in_ok-pattern.pattern.now) c.args.shown c.args.size c.in_ok-drawing.drawing c.in_ok-drawing.ensures.drawn c.requires

pub returns-clause-ok : goal.returns-clause-ok
returns-clause-ok c =
    let shown = c.can_be_shown.ensures.0 c.if-not-can_be_shown.false in
    let plane = plane_of c.in_ok-pattern.pattern.now in
    let image = c.in_ok-image.image in
    let drawn = picture_drawn plane c.args.shown c.args.size c.in_ok-drawing.drawing c.in_ok-drawing.ensures.drawn _ c.as_slice.ensures.value image c.in_ok-image.ensures.width c.in_ok-image.ensures.rows in
    let here : plane_of c.in_ok-pattern.pattern.now ≡ cells_of c.rest.new.self =
    subst (λ (o : Option (Bor Pattern)). IfSome o (λ pattern. plane_of pattern.now ≡ cells_of c.rest.new.self)) c.in_ok-pattern.ensures.ok_part c.pattern.ensures.some in
    let rest = plane_equal (cells_of c.rest.new.self) (cells_of c.args.session.now) c.rest.ensures.same.cells in
    IfOk-weaker c.picture_file.result _ _ (λ text file. (shown, picture_of_cells plane (cells_of c.args.session.now) c.args.shown c.args.size image text.items (here ∙ rest) drawn file)) c.picture_file.ensures.ok
