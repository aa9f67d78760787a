-- The report of a run: its lines, and the text of the window behind them.
use Rattle.std.specs.Prelude.{◌≡◌, ℕ, ◌+◌, ◌%◌, ◌==◌, nat_lt, ◌&&◌, ◌||◌, not, Bool, true, false, Option, None, Some, List, [], ◌++◌, length, filter, take, codes, decimal}
use Rattle.std.specs.List.{AllZip, concat, range_with_len}
use Rattle.rule_text.specs.CountRule.{CountRule}
use Rattle.plane.specs.Listing.{IsListing}
use Rattle.plane.specs.Plane.{Plane, after}
use Rattle.plane.specs.Window.{Rectangle}
use Rattle.plane.specs.declared.cell.Cell.{Cell}
use Rattle.viewport.specs.Picture.{picture_text}
use Rattle.engine.specs.declared.options.Options.{Options}

-- the line of one generation: its number and how many cells are live
abbrev pub report_line : ℕ → ℕ → List ℕ
report_line generation population =
    decimal generation ++ codes ": " ++ decimal population ++ codes "\n"

-- a run has a line after so many generations: after none and after all of them, and after each
-- multiple of the step
abbrev pub is_shown : Options → ℕ → Bool
is_shown options done =
    not options.quiet
    && (done == 0 || done == options.gens || (nat_lt 0 options.step && (done % options.step) == 0))

-- all such numbers, rising
abbrev pub shown : Options → List ℕ
shown options = filter (is_shown options) (range_with_len 0 (options.gens + 1))

-- the line of the cells after so many generations from the start
abbrev pub IsLineAfter : CountRule → Plane → ℕ → ℕ → List ℕ → Type 0
IsLineAfter rule plane start done line =
    (cells : List Cell) × IsListing cells (after rule plane done)
    × (line ≡ report_line (start + done) (length cells))

-- the text is the lines after each of these numbers of generations
abbrev pub AreLinesAfter : CountRule → Plane → ℕ → List ℕ → List ℕ → Type 0
AreLinesAfter rule plane start numbers text =
    (lines : List (List ℕ)) × AllZip (IsLineAfter rule plane start) numbers lines
    × (text ≡ concat lines)

-- the text is the first lines of the report, or none
abbrev pub AreFirstLines : CountRule → Plane → ℕ → Options → List ℕ → Type 0
AreFirstLines rule plane start options text =
    (count : ℕ) × AreLinesAfter rule plane start (take count (shown options)) text

-- what is said of a generation with these cells: its line, or nothing where the report is left out
abbrev pub IsSaid : Bool → ℕ → Plane → List ℕ → Type 0
IsSaid true generation plane said = said ≡ []
IsSaid false generation plane said =
    (cells : List Cell) × IsListing cells plane × (said ≡ report_line generation (length cells))

-- the text of the window, where one is asked for
abbrev pub window_text : Option Rectangle → Plane → List ℕ
window_text None plane = []
window_text (Some window) plane = picture_text plane window
