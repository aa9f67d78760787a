-- Where a pattern lies, and which patterns RLE can hold.
use Rattle.std.specs.Prelude.{ℕ, ◌+◌, ◌*◌, ◌/◌, ◌^◌, ◌<◌, ℤ, pos, ◌+ℤ◌, Option, None, Some, IfSome, FitsSigned}
use Rattle.std.specs.Int.{w64}
use Rattle.plane.specs.declared.cell.Bounds.{Bounds}
use Rattle.pattern_writers.specs.declared.rle_text.frame.Frame.{Frame}
use Rattle.pattern_writers.specs.Items.{distance}

-- how many columns or rows there are from the first to the last
abbrev pub side : ℤ → ℤ → ℕ
side first last = distance first last + 1

-- both sides of the box are below 2^31
abbrev pub FitsRle : Option Bounds → Type 0
FitsRle bounds =
    IfSome bounds (λ box. (side box.left box.right < 2 ^ 31) × (side box.top box.bottom < 2 ^ 31))

-- the upper left corner and the sides of a box, or those of no cells
abbrev pub frame_of : Option Bounds → Frame
frame_of None = record { corner = record { y = pos 0; x = pos 0 }; width = 0; height = 0 }
frame_of (Some box) = record {
  corner = record { y = box.top; x = box.left };
  width = side box.left box.right;
  height = side box.top box.bottom;
}

-- the rows of the frame, and the one after the last, have numbers of 64 bits
pub record HasRoom (frame : Frame) : Type 0 where
  pub height : frame.height < 2 ^ 31
  pub bottom : FitsSigned w64 (frame.corner.y +ℤ pos frame.height)

-- the row that this band of a frame begins with, of 64, or the row after the last one
abbrev pub band_row : Frame → ℕ → ℤ
band_row frame band = frame.corner.y +ℤ pos (frame.height * band / 64)
