use Rattle.std.proofs.Common.{ap, sym, subst, ◌∙◌}
use Rattle.std.specs.Prelude.{IfOk}
use Rattle.node_table.specs.Stills.{book_in}
use Rattle.node_table.specs.declared.still.Still.{Still}
use Rattle.plane.specs.Plane.{Plane}
use Rattle.squares.specs.Roots.{square_plane}
use Rattle.pattern_picture.specs.Drawings.{IsDrawingOf}
use Rattle.view_program.proofs.rectangle.drawing_of.Goals as goal

pub returns-clause-drawn : goal.returns-clause-drawn
returns-clause-drawn c =
    subst (λ (plane : Plane). IfOk c.of.result (IsDrawingOf plane c.args.shown c.args.size))
    (ap (λ (still : Still). square_plane (book_in still) c.root.result) c.still.ensures ∙ sym c.root.ensures.cells) c.of.ensures.drawn
