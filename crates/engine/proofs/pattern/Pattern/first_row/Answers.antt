use Rattle.std.proofs.Common.{subst}
use Rattle.std.specs.Int.{w64}
use Rattle.std.proofs.lemmas.Int.{to_z-of_z}
use Rattle.node_table.specs.Stills.{book_in}
use Rattle.plane.specs.Plane.{Plane}
use Rattle.squares.specs.Roots.{square_plane}
use Rattle.viewport.specs.Rows.{IsFirstRow}
use Rattle.engine.proofs.CellsAtRest.{same_cells}
use Rattle.engine.proofs.pattern.Pattern.first_row.Goals as goal

pub returns : goal.returns
returns c =
    let first : IsFirstRow (square_plane (book_in c.still.result.now) c.root.result) c.args.y c.first_row.result =
    rw (to_z-of_z w64 c.args.y c.ranges.y) at c.first_row.ensures in
    subst (λ (p : Plane). IsFirstRow p c.args.y c.first_row.result) (same_cells c.args.self.now.resting.cells c.still.result.now c.root.result c.still.ensures c.root.ensures.root) first
