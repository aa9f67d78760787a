-- The box of the live cells of a pattern has a cell, and lies within the rectangle that holds the
-- range.
use Rattle.std.proofs.Common.{Option, None, Some, IfSome, List, [], ◌∷◌, sym, subst}
use Rattle.std.specs.List.{AllByRecursion}
use Rattle.engine.specs.Pattern.{plane_of}
use Rattle.engine.specs.declared.pattern.Pattern.{Pattern}
use Rattle.pattern_writers.proofs.BandsDown.{in_whole_range}
use Rattle.plane.specs.Bounds.{IsWithin, bounds_of}
use Rattle.plane.specs.declared.cell.Bounds.{Bounds}
use Rattle.plane.specs.declared.cell.Cell.{Cell}
use Rattle.plane.proofs.Boxes.{Covers, covers_bounds, within_bounds}
use Rattle.viewport.specs.BoundingBox.{HasBounds}
use Rattle.engine.proofs.CellsAtRest.{pattern_held}
pub use Rattle.pattern_writers.proofs.BandsDown.{whole_range}

both : {T : Type 0} (P Q R : T → Type 0) → ((x : T) → P x → Q x → R x) → (o : Option T) → IfSome o P → IfSome o Q → IfSome o R
both P Q R joined None p q = tt
both P Q R joined (Some x) p q = joined x p q

-- what holds of a box with a cell within the rectangle holds of their box
module _ (Q : Bounds → Type 0) (holds : (box : Bounds) (cell : Cell) → IsWithin box cell → Covers whole_range box → Q box) where
  of_cells : (cells : List Cell) → AllByRecursion (IsWithin whole_range) cells → IfSome (bounds_of cells) Q
  of_cells [] within = tt
  of_cells (cell ∷ cells) within =
      both (λ box. AllByRecursion (IsWithin box) (cell ∷ cells)) (Covers whole_range) Q (λ box all covers. holds box cell all.0 covers)
      (bounds_of (cell ∷ cells)) (within_bounds (cell ∷ cells)) (covers_bounds whole_range (cell ∷ cells) within)

  pub of_bounds : (pattern : Pattern) (bounds : Option Bounds) → HasBounds (plane_of pattern) bounds → IfSome bounds Q
  of_bounds pattern bounds has =
      subst (λ box. IfSome box Q) (sym has.bounds) (of_cells has.cells (in_whole_range (plane_of pattern) has.cells (pattern_held pattern) has.listing))
