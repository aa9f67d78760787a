-- What a pattern file that was written is read as.
use Rattle.std.specs.Prelude.{◌≡◌, ℕ, ◌^◌, ◌<◌, ◌≤◌, false, true, List, length, codes, Some, Result, Ok}
use Rattle.std.specs.List.{AllByRecursion}
use Rattle.rule_text.specs.CountRule.{CountRule}
use Rattle.rule_text.specs.RuleText.{canonical_text}
use Rattle.plane.specs.Centred.{IsSmallestLevel}
use Rattle.plane.specs.Limits.{largest_generation, most_live_cells}
use Rattle.plane.specs.Listing.{IsListing}
use Rattle.plane.specs.Plane.{Plane}
use Rattle.plane.specs.Range.{IsInRange}
use Rattle.plane.specs.Square.{IsSame}
use Rattle.plane.specs.declared.cell.Cell.{Cell}
use Rattle.plane.specs.declared.fault.Fault.{Fault}
use Rattle.squares.specs.declared.sq.TheConstants.{HIGHEST_ROOT_LEVEL}
use Rattle.text_lines.specs.Bytes.{ends_with}
use Rattle.text_lines.specs.Comments.{is_kept}
use Rattle.text_lines.specs.Lines.{is_line_feed}
use Rattle.text_lines.specs.Meaning.{Meaning}
use Rattle.rle_reader.specs.Meaning as rle
use Rattle.macrocell_reader.specs.Planes as macrocell
use Rattle.pattern_writers.specs.McText.{from_corner}
use Rattle.pattern_writers.specs.Subsquares.{listed_in}

-- a comment that is kept, in one line
pub record IsComment (comment : List ℕ) : Type 0 where
  pub kept : is_kept comment ≡ true
  pub one_line : AllByRecursion (λ byte. is_line_feed byte ≡ false) comment

-- it does not end with a CR
abbrev pub HasNoReturn : List ℕ → Type 0
HasNoReturn comment = ends_with (codes "\r") comment ≡ false

-- what was read is accepted, and is what was written
pub record IsReadAs (comments : List (List ℕ)) (rule : CountRule) (generation : ℕ) (plane : Plane)
    (read : Result Meaning Fault) : Type 0 where
  pub meaning : Meaning
  pub accepted : read ≡ Ok meaning
  pub same_generation : meaning.generation ≡ generation
  pub same_rule : meaning.rule ≡ Some (canonical_text rule)
  pub same_comments : AllByRecursion HasNoReturn comments → meaning.comments ≡ comments
  pub same_cells : IsSame meaning.live plane

-- comments and a generation that can be read
pub record IsReadableHeading (comments : List (List ℕ)) (generation : ℕ) : Type 0 where
  pub in_range : generation ≤ largest_generation
  pub are_comments : AllByRecursion IsComment comments

-- a pattern whose text in RLE can be read
pub record IsReadable (comments : List (List ℕ)) (generation : ℕ) (plane : Plane)
    (cells : List Cell) : Type 0 where
  pub heading : IsReadableHeading comments generation
  pub listing : IsListing cells plane
  pub cells_in_range : AllByRecursion IsInRange cells
  pub few : length cells ≤ most_live_cells

-- a pattern that a macrocell file can hold
pub record FitsMc (comments : List (List ℕ)) (generation level : ℕ) (plane : Plane) : Type 0 where
  pub heading : IsReadableHeading comments generation
  pub smallest : IsSmallestLevel level plane
  pub high : level ≤ HIGHEST_ROOT_LEVEL
  pub numbers : length (listed_in level (from_corner level plane)) < 2 ^ 32

-- the text is read as the pattern, as RLE
abbrev pub IsReadFromRle : List (List ℕ) → CountRule → ℕ → Plane → List ℕ → Type 0
IsReadFromRle comments rule generation plane text =
    IsReadAs comments rule generation plane (rle.pattern_in text)

-- the text is read as the pattern, as a macrocell file
abbrev pub IsReadFromMc : List (List ℕ) → CountRule → ℕ → Plane → List ℕ → Type 0
IsReadFromMc comments rule generation plane text =
    IsReadAs comments rule generation plane (macrocell.pattern_in text)

-- if the pattern can be read, the text is read as the pattern
abbrev pub IsReadBackFromRle : Plane → List (List ℕ) → CountRule → ℕ → List ℕ → Type 0
IsReadBackFromRle plane comments rule generation text =
    (cells : List Cell) → IsReadable comments generation plane cells →
    IsReadFromRle comments rule generation plane text

-- if a macrocell file can hold the pattern, the text is read as the pattern
abbrev pub IsReadBackFromMc : Plane → List (List ℕ) → CountRule → ℕ → List ℕ → Type 0
IsReadBackFromMc plane comments rule generation text =
    (level : ℕ) → FitsMc comments generation level plane →
    IsReadFromMc comments rule generation plane text
