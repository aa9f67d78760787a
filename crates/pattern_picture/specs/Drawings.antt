-- How a rectangle of a plane is drawn.
use Rattle.std.specs.Prelude.{◌≡◌, ℕ}
use Rattle.plane.specs.declared.cell.Bounds.{Bounds}
use Rattle.plane.specs.Plane.{Plane}
use Rattle.pattern_picture.specs.Scale.{IsScale, blocks_of}
use Rattle.pattern_picture.specs.Shades.{block_shades}
use Rattle.pattern_picture.specs.declared.pictures.Drawing.{Drawing}

-- the drawing shows the rectangle at the largest scale with at most so many pixels on each side
pub record IsDrawingOf (plane : Plane) (shown : Bounds) (size : ℕ)
    (drawing : Drawing) : Type 0 where
  pub scaled : IsScale shown size drawing.scale
  pub blocks : drawing.blocks ≡ blocks_of drawing.scale.exponent shown
  pub shades : drawing.shades.items ≡ block_shades plane drawing.blocks
