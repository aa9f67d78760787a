-- The picture of a rectangle of a plane.
use Rattle.std.specs.Prelude.{◌≡◌, ℕ, ◌*◌}
use Rattle.plane.specs.declared.cell.Bounds.{Bounds}
use Rattle.plane.specs.Plane.{Plane}
use Rattle.pattern_picture.specs.Scale.{IsScale, block_span, blocks_of}
use Rattle.pattern_picture.specs.Shades.{shade_rows}
use Rattle.pattern_picture.specs.declared.scale.Scale.{Scale}
use Rattle.png_writer.specs.Picture.{Picture}
use Rattle.png_writer.specs.Pixels.{zoomed}

-- the picture shows the rectangle at the largest scale with at most so many pixels on each side
pub record IsPictureOf (plane : Plane) (shown : Bounds) (size : ℕ)
    (picture : Picture) : Type 0 where
  pub scale : Scale
  pub scaled : IsScale shown size scale
  pub width : picture.width ≡ scale.zoom * block_span scale.exponent shown.left shown.right
  pub rows : picture.rows ≡ zoomed scale.zoom (shade_rows plane (blocks_of scale.exponent shown))
