-- The rows of a drawing, and its pixels.
use Rattle.std.proofs.Common.{◌≡◌, ℕ, ◌*◌, ◌≤◌, List, [], ◌∷◌, ◌++◌, length, take, drop, refl, sym, ap, ◌∙◌, arith, length-append}
use Rattle.std.specs.List.{AllByRecursion, concat}
use Rattle.std.proofs.Math.Nat.{mul-le-mul_left, mul-le-mul_right}
use Rattle.std.proofs.Math.Seq.{take-append_seam, drop-append_seam}
use Rattle.plane.specs.declared.cell.Bounds.{Bounds}
use Rattle.plane.specs.Plane.{Plane}
use Rattle.pattern_picture.specs.Drawings.{IsDrawingOf}
use Rattle.pattern_picture.specs.Scale.{IsSize, longer_side}
use Rattle.pattern_picture.specs.Shades.{block_shades, shade_rows}
use Rattle.pattern_picture.specs.declared.pictures.Drawing.{Drawing}
use Rattle.pattern_picture.proofs.ShadeRows.{shade_rows-joined, shade_rows-length, shade_rows-width}
use Rattle.png_writer.specs.Picture.{IsSide, Picture}
use Rattle.png_writer.specs.Pixels.{cut_rows, zoomed}
use Rattle.view_program.specs.Drawn.{IsPictureOf}

front : (width : ℕ) (row rest : List ℕ) → length row ≡ width → (take width (row ++ rest) ≡ row) × (drop width (row ++ rest) ≡ rest)
front width row rest same = rw (← same) (take-append_seam row rest, drop-append_seam row rest)

-- rows of one length that stand behind one another are cut apart again
cut_joined : (width : ℕ) (rows : List (List ℕ)) → AllByRecursion (λ row. length row ≡ width) rows → cut_rows width (length rows) (concat rows) ≡ rows
unfolding cut_rows
cut_joined width [] wide = refl
cut_joined width (row ∷ rows) wide =
    let both = front width row (concat rows) wide.0 in
    rw (both.0, both.1) (ap (λ rest. row ∷ rest) (cut_joined width rows wide.1))

joined-length : (width : ℕ) (rows : List (List ℕ)) → AllByRecursion (λ row. length row ≡ width) rows → length (concat rows) ≡ width * length rows
joined-length width [] wide = omega arith
joined-length width (row ∷ rows) wide = omega (arith, length-append row (concat rows), wide.0, joined-length width rows wide.1)

is_side : (zoom span longer size : ℕ) → IsSize size → 1 ≤ zoom → 1 ≤ span → span ≤ longer → zoom * longer ≤ size → IsSide (zoom * span)
is_side zoom span longer size sized some one short fits =
    (omega (arith, mul-le-mul_right span some, one), omega (arith, mul-le-mul_left zoom short, fits, sized.most))

-- a drawing of a rectangle
module _ (plane : Plane) (shown : Bounds) (size : ℕ) (drawing : Drawing) (drawn : IsDrawingOf plane shown size drawing) where
  abbrev drawn_rows : List (List ℕ)
  drawn_rows = shade_rows plane drawing.blocks

  -- its shades are its rows, one behind the other
  pub shades-cut : cut_rows drawing.blocks.width drawing.blocks.height (block_shades plane drawing.blocks) ≡ drawn_rows
  shades-cut =
      ap (cut_rows drawing.blocks.width drawing.blocks.height) (shade_rows-joined plane drawing.blocks)
      ∙ ap (λ n. cut_rows drawing.blocks.width n (concat drawn_rows)) (sym (shade_rows-length plane drawing.blocks))
      ∙ cut_joined drawing.blocks.width drawn_rows (shade_rows-width plane drawing.blocks)

  pub shades-length : length drawing.shades.items ≡ drawing.blocks.width * drawing.blocks.height
  shades-length =
      ap length (drawn.shades ∙ shade_rows-joined plane drawing.blocks)
      ∙ joined-length drawing.blocks.width drawn_rows (shade_rows-width plane drawing.blocks)
      ∙ ap (λ n. drawing.blocks.width * n) (shade_rows-length plane drawing.blocks)

  pub columns_fit : IsSize size → IsSide (drawing.scale.zoom * drawing.blocks.width)
  columns_fit sized = rw drawn.blocks (is_side drawing.scale.zoom _ (longer_side drawing.scale.exponent shown) size sized drawn.scaled.pixels.0 (omega arith) (omega arith) drawn.scaled.fits)

  pub rows_fit : IsSize size → IsSide (drawing.scale.zoom * drawing.blocks.height)
  rows_fit sized = rw drawn.blocks (is_side drawing.scale.zoom _ (longer_side drawing.scale.exponent shown) size sized drawn.scaled.pixels.0 (omega arith) (omega arith) drawn.scaled.fits)

  -- and its pixels, made of a slice of its shades
  unfoldable pub picture_drawn : (slice : List ℕ) → slice ≡ drawing.shades.items → (picture : Picture) → picture.width ≡ drawing.scale.zoom * drawing.blocks.width →
      picture.rows ≡ zoomed drawing.scale.zoom (cut_rows drawing.blocks.width drawing.blocks.height slice) → IsPictureOf plane shown size picture
  picture_drawn slice same picture width rows = record {
    scale = drawing.scale;
    scaled = drawn.scaled;
    width = width ∙ ap (λ b. drawing.scale.zoom * b.width) drawn.blocks;
    rows = rows
        ∙ ap (λ s. zoomed drawing.scale.zoom (cut_rows drawing.blocks.width drawing.blocks.height s)) (same ∙ drawn.shades)
        ∙ ap (zoomed drawing.scale.zoom) shades-cut
        ∙ ap (λ b. zoomed drawing.scale.zoom (shade_rows plane b)) drawn.blocks;
  }
