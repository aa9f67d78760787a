-- The runs of live cells that are still to come, as a machine reads them from a text that was
-- checked.
use Rattle.std.specs.Prelude.{ℕ, ◌+◌, ◌%◌, ◌^◌, max, false, if◌then◌else◌, List, [], ◌∷◌, ◌++◌, ℤ, Result, Ok, Err}
use Rattle.std.specs.Int.{w64, cast_signed, cast_unsigned}
use Rattle.plane.specs.declared.cell.Cell.{Cell}
use Rattle.plane.specs.declared.refusal.Refusal.{Refusal}
use Rattle.text_lines.specs.Numbers.{with_digit, capped}
use Rattle.rle_reader.specs.Body.{stripped_from}
use Rattle.rle_reader.specs.Items.{is_digit, tag_of}
use Rattle.rle_reader.specs.LiveRuns.{live_run}
use Rattle.rle_reader.specs.declared.body.LocatedByte.{LocatedByte}
use Rattle.rle_reader.specs.declared.item.Tag.{Tag}
use Rattle.rle_reader.specs.declared.item.Tag.TheVariants.{Dead, Live, Row}
use Rattle.rle_reader.specs.declared.live_runs.LiveRest.{LiveRest}

-- the coordinate so many further, as a machine adds
abbrev pub further : ℤ → ℕ → ℤ
further coordinate count = cast_signed w64 ((cast_unsigned w64 coordinate + count) % 2 ^ 64)

-- the column after an item, where the pattern's left side is at this column
abbrev pub column_after : ℤ → ℤ → Tag → ℕ → ℤ
column_after left column Dead count = further column count
column_after left column Live count = further column count
column_after left column Row count = left

-- the row after an item
abbrev pub row_after : ℤ → Tag → ℕ → ℤ
row_after row Dead count = row
row_after row Live count = row
row_after row Row count = further row count

-- the runs that a tag stands before, none where a byte is not a tag
abbrev pub runs_at : (Tag → List (Cell × ℕ)) → Result Tag Refusal → List (Cell × ℕ)
runs_at runs (Err refusal) = []
runs_at runs (Ok tag) = runs tag

-- the runs of these bytes, before which digits of this value were read, from this column and row on
unfoldable pub live_left : ℤ → ℤ → ℤ → ℕ → List LocatedByte → List (Cell × ℕ)
live_left left column row count [] = []
live_left left column row count (first ∷ rest) =
    if is_digit first then live_left left column row (capped (with_digit count first.byte)) rest
    else runs_at (λ tag. live_run (record { y = row; x = column }) tag (max count 1)
    ++ live_left left (column_after left column tag (max count 1))
    (row_after row tag (max count 1)) 0 rest) (tag_of first.byte)

-- the runs of what is left of a body
abbrev pub live_rest : LiveRest → List (Cell × ℕ)
live_rest rest =
    live_left rest.left rest.column rest.row 0 (stripped_from rest.source.now rest.at false)
