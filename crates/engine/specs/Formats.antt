-- The formats of pattern files, and what a run writes to its file.
use Rattle.std.specs.Prelude.{◌≡◌, ℕ, List, [], Option, None, Some, ⊤}
use Rattle.rule_text.specs.CountRule.{CountRule}
use Rattle.plane.specs.Bounds.{bounds_of}
use Rattle.plane.specs.Centred.{IsSmallestLevel}
use Rattle.plane.specs.Listing.{IsListing, plane_of}
use Rattle.plane.specs.Plane.{Plane}
use Rattle.plane.specs.declared.cell.Cell.{Cell}
use Rattle.pattern_writers.specs.Frame.{FitsRle}
use Rattle.pattern_writers.specs.Reading.{IsReadBackFromMc, IsReadBackFromRle}
use Rattle.pattern_writers.specs.McText.{mc_text}
use Rattle.pattern_writers.specs.RleText.{rle_text}
use Rattle.engine.specs.declared.options.Format.{Format}
use Rattle.engine.specs.declared.options.Format.TheVariants.{Rle, Macrocell}

-- a format of files
pub record FileFormat : Type 1 where
  -- it can hold the cells
  pub CanHold : List Cell → Type 0
  -- the text of the cells, with the comments, the rule and the generation
  pub IsText : List (List ℕ) → CountRule → ℕ → List Cell → List ℕ → Type 0
  -- the text is read as the cells of the plane, with the comments, the rule and the generation, if
  -- the format's reader can read them
  pub IsReadBack : Plane → List (List ℕ) → CountRule → ℕ → List ℕ → Type 0

abbrev pub rle : FileFormat
rle = record {
  CanHold = λ cells. FitsRle (bounds_of cells);
  IsText = λ comments rule generation cells text. text ≡ rle_text comments rule generation cells;
  IsReadBack = IsReadBackFromRle;
}

-- the macrocell text of the cells: that of the smallest square around (0,0) that holds them
pub record IsMcText (comments : List (List ℕ)) (rule : CountRule) (generation : ℕ)
    (cells : List Cell) (text : List ℕ) : Type 0 where
  pub level : ℕ
  pub smallest : IsSmallestLevel level (plane_of cells)
  pub is : text ≡ mc_text comments rule generation level (plane_of cells)

abbrev pub macrocell : FileFormat
macrocell = record { CanHold = λ cells. ⊤; IsText = IsMcText; IsReadBack = IsReadBackFromMc }

-- a run without a format writes no text
abbrev pub no_file : FileFormat
no_file = record {
  CanHold = λ cells. ⊤;
  IsText = λ comments rule generation cells text. text ≡ [];
  IsReadBack = λ plane comments rule generation text. ⊤;
}

-- the format that is asked for
abbrev pub format_of : Option Format → FileFormat
format_of None = no_file
format_of (Some Rle) = rle
format_of (Some Macrocell) = macrocell

-- the plane's cells have a text in the format, of which this holds
pub record HasText (format : FileFormat) (plane : Plane) (comments : List (List ℕ))
    (rule : CountRule) (generation : ℕ) (Holds : List ℕ → Type 0) : Type 0 where
  pub cells : List Cell
  pub text : List ℕ
  pub listing : IsListing cells plane
  pub fits : format.CanHold cells
  pub is : format.IsText comments rule generation cells text
  pub holds : Holds text

-- the format can't hold the plane's cells
pub record Exceeds (format : FileFormat) (plane : Plane) : Type 0 where
  pub cells : List Cell
  pub listing : IsListing cells plane
  pub unfit : format.CanHold cells → ⊥
