-- The text of the items of some cells, in their frame, is the text of the cells.
use Rattle.std.proofs.Common.{◌≡◌, ℕ, List, ◌∙◌, ap}
use Rattle.rule_text.specs.CountRule.{CountRule}
use Rattle.plane.specs.Bounds.{bounds_of}
use Rattle.plane.specs.declared.cell.Cell.{Cell}
use Rattle.pattern_writers.specs.Frame.{frame_of}
use Rattle.pattern_writers.specs.Items.{items_of}
use Rattle.pattern_writers.specs.RleText.{framed_text, items_text, rle_text}
use Rattle.pattern_writers.specs.RowRuns.{runs_of}
use Rattle.pattern_writers.specs.declared.rle_text.frame.Frame.{Frame}
use Rattle.pattern_writers.specs.declared.rle_text.items.Item.{Item}

pub whole_text : (comments : List (List ℕ)) (rule : CountRule) (generation : ℕ) (cells : List Cell) (frame : Frame) (items : List Item) →
    frame ≡ frame_of (bounds_of cells) → items ≡ items_of frame.corner.x frame.corner (runs_of cells) →
    items_text frame comments rule generation items ≡ rle_text comments rule generation cells
whole_text comments rule generation cells frame items frame_is items_is =
    ap (items_text frame comments rule generation) items_is ∙ ap (λ f. framed_text f comments rule generation cells) frame_is
