-- The text of a pattern in RLE.
use Rattle.std.specs.Prelude.{◌≡◌, ◌⊎◌, ℕ, List, ◌++◌, codes, Option}
use Rattle.std.specs.Io.KnownBytes.{Appends}
use Rattle.std.specs.List.{flat_map}
use Rattle.rule_text.specs.CountRule.{CountRule}
use Rattle.rule_text.specs.RuleText.{canonical_text}
use Rattle.plane.specs.Bounds.{bounds_of}
use Rattle.plane.specs.Device.{AppendsBeginning}
use Rattle.plane.specs.Listing.{IsListing}
use Rattle.plane.specs.Plane.{Plane}
use Rattle.plane.specs.declared.cell.Cell.{Cell}
use Rattle.plane.specs.declared.refusal.Refusal.{Refusal}
use Rattle.plane.specs.declared.refusal.Refusal.TheVariants.{BoxTooLarge, NoMemory}
use Rattle.pattern_writers.specs.Frame.{FitsRle, frame_of}
use Rattle.pattern_writers.specs.Items.{items_of}
use Rattle.pattern_writers.specs.Layout.{body_text}
use Rattle.pattern_writers.specs.Preamble.{header_line, position_line}
use Rattle.pattern_writers.specs.RowRuns.{runs_of}
use Rattle.pattern_writers.specs.declared.rle_text.frame.Frame.{Frame}
use Rattle.pattern_writers.specs.declared.rle_text.items.Item.{Item}
use Rattle.pattern_writers.specs.declared.rle_text.row_run.RowRun.{RowRun}

-- each comment as a line
abbrev pub comment_lines : List (List ℕ) → List ℕ
comment_lines comments = flat_map (λ comment. comment ++ codes "\n") comments

-- the text of the cells of a frame
abbrev pub framed_text : Frame → List (List ℕ) → CountRule → ℕ → List Cell → List ℕ
framed_text frame comments rule generation cells =
    position_line frame.corner.x frame.corner.y generation
    ++ comment_lines comments
    ++ header_line frame.width frame.height (canonical_text rule)
    ++ body_text (items_of frame.corner.x frame.corner (runs_of cells))

-- the text of the cells, with the comments, the rule and the generation
abbrev pub rle_text : List (List ℕ) → CountRule → ℕ → List Cell → List ℕ
rle_text comments rule generation cells =
    framed_text (frame_of (bounds_of cells)) comments rule generation cells

-- the text of the plane's cells, which have one, is written between the two
pub record WritesRle (plane : Plane) (comments : List (List ℕ)) (rule : CountRule) (generation : ℕ)
    (before after : Option (List ℕ)) : Type 0 where
  pub cells : List Cell
  pub listing : IsListing cells plane
  pub fits : FitsRle (bounds_of cells)
  pub appends : Appends before after (rle_text comments rule generation cells)

-- a beginning of the text of the plane's cells, which have one, is written between the two
pub record BeginsRle (plane : Plane) (comments : List (List ℕ)) (rule : CountRule) (generation : ℕ)
    (before after : Option (List ℕ)) : Type 0 where
  pub cells : List Cell
  pub listing : IsListing cells plane
  pub fits : FitsRle (bounds_of cells)
  pub beginning : AppendsBeginning before after (rle_text comments rule generation cells)

-- the plane's cells have no text: a side of their box is too long
pub record IsTooLarge (plane : Plane) : Type 0 where
  pub cells : List Cell
  pub listing : IsListing cells plane
  pub unfit : ¬ FitsRle (bounds_of cells)

-- why there is no frame: a side of the cells' box is too long, or memory ran out
abbrev pub IsFrameRefusal : Plane → Refusal → Type 0
IsFrameRefusal plane refusal = ((refusal ≡ BoxTooLarge) × IsTooLarge plane) ⊎ (refusal ≡ NoMemory)

-- the frame of the plane's cells, which have a text
pub record HasFrame (plane : Plane) (frame : Frame) : Type 0 where
  pub cells : List Cell
  pub listing : IsListing cells plane
  pub fits : FitsRle (bounds_of cells)
  pub frame_is : frame ≡ frame_of (bounds_of cells)

-- the runs of the plane's cells
pub record HasRuns (plane : Plane) (runs : List RowRun) : Type 0 where
  pub cells : List Cell
  pub listing : IsListing cells plane
  pub runs_is : runs ≡ runs_of cells

-- the text of these items in a frame
abbrev pub items_text : Frame → List (List ℕ) → CountRule → ℕ → List Item → List ℕ
items_text frame comments rule generation items =
    position_line frame.corner.x frame.corner.y generation
    ++ comment_lines comments
    ++ header_line frame.width frame.height (canonical_text rule)
    ++ body_text items

-- the frame and the items of the plane's cells, which have a text
pub record HasItems (plane : Plane) (frame : Frame) (items : List Item) : Type 0 where
  pub cells : List Cell
  pub listing : IsListing cells plane
  pub fits : FitsRle (bounds_of cells)
  pub frame_is : frame ≡ frame_of (bounds_of cells)
  pub items_is : items ≡ items_of frame.corner.x frame.corner (runs_of cells)
