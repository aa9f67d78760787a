-- Runs that are cut: a first part, and the rest from the file that it wrote.
use Rattle.std.specs.Prelude.{◌≡◌, ℕ, ◌+◌, ◌<◌, ◌≤◌, ◌^◌, List, length, Option, None, Some, Ok}
use Rattle.std.specs.List.{AllByRecursion}
use Rattle.plane.specs.Centred.{IsSmallestLevel}
use Rattle.plane.specs.Limits.{most_live_cells}
use Rattle.plane.specs.Listing.{plane_of}
use Rattle.plane.specs.declared.cell.Cell.{Cell}
use Rattle.pattern_writers.specs.McText.{from_corner}
use Rattle.pattern_writers.specs.Reading.{HasNoReturn}
use Rattle.pattern_writers.specs.Subsquares.{listed_in}
use Rattle.engine.specs.Judgement.{Start, Judges}
use Rattle.engine.specs.Run.{Finishes}
use Rattle.engine.specs.RunOptions.{run_of}
use Rattle.engine.specs.declared.options.Format.{Format}
use Rattle.engine.specs.declared.options.Format.TheVariants.{Rle, Macrocell}
use Rattle.engine.specs.declared.options.Options.{Options}
use Rattle.engine.specs.declared.running.Summary.{Summary}

-- `whole` runs on for the generations of `first` and then for those of `rest`, which is given no
-- rule and writes the format of `whole`
pub record AreParts (first rest whole : Options) : Type 0 where
  pub generations : whole.gens ≡ first.gens + rest.gens
  pub no_rule : rest.rule ≡ None
  pub format : rest.format ≡ whole.format

-- the reader of the format takes the file of these cells: in RLE they are at most 2^28, in a
-- macrocell file their square has fewer than 2^32 nodes; without a format there is no file
abbrev pub CanBeRead : Option Format → List Cell → Type 0
CanBeRead None cells = ⊥
CanBeRead (Some Rle) cells = length cells ≤ most_live_cells
CanBeRead (Some Macrocell) cells =
    (level : ℕ) → IsSmallestLevel level (plane_of cells) →
    length (listed_in level (from_corner level (plane_of cells))) < 2 ^ 32

-- a run of these bytes is accepted and can end, and where it ends, it is with this answer, and, if
-- none of these comments ends with a CR, with this file
pub record GoesOn (bytes : List ℕ) (options : Options) (comments : List (List ℕ))
    (answer : Summary) (file : List ℕ) : Type 0 where
  pub begun : Start
  pub accepted : Judges bytes (run_of options) (Ok begun)
  pub ends : (said : List ℕ) × (written : List ℕ) × Finishes begun options answer said written
  pub same_answer : (other : Summary) (said written : List ℕ) →
      Finishes begun options other said written → other ≡ answer
  pub same_file : AllByRecursion HasNoReturn comments →
      (other : Summary) (said written : List ℕ) →
      Finishes begun options other said written → written ≡ file
