-- The words of a text, and what a word of a `#CXRLE` line says.
use Rattle.std.specs.Prelude.{ℕ, List, ℤ, Bool, neg_ℤ, int_le, int_lt, ◌&&◌, nat_le, if◌then◌else◌, drop, Option, None, Some, codes, Result, Ok, Err}
use Rattle.std.specs.List.{slice_split, before_first, after_first}
use Rattle.text_lines.specs.Bytes.{is_blank, begins_with, is_byte}
use Rattle.std.specs.Result.{result_map_both}
use Rattle.std.specs.Str.{byte}
use Rattle.plane.specs.declared.cell.Cell.{Cell}
use Rattle.plane.specs.declared.refusal.Refusal.{Refusal}
use Rattle.plane.specs.declared.refusal.Refusal.TheVariants.{BadHeader, OutOfRange, BadGen}
use Rattle.plane.specs.Limits.{coordinate_limit, largest_generation}
use Rattle.rle_reader.specs.Numbers.{integer_of}
use Rattle.text_lines.specs.Numbers.{number_of}
use Rattle.rle_reader.specs.declared.settings.Word.{Word}
use Rattle.rle_reader.specs.declared.settings.Word.TheVariants.{Pos, Gen, Other}

-- the parts between the blanks of a text
abbrev pub words : List ℕ → List (List ℕ)
words text = slice_split is_blank text

-- whether the number is in the range of coordinates
abbrev pub is_coordinate : ℤ → Bool
is_coordinate number = int_le (neg_ℤ coordinate_limit) number && int_lt number coordinate_limit

-- the cell of two coordinates: first of all both have to be numbers, and then both in the range
unfoldable pub cell_at : Option ℤ → Option ℤ → Result Cell Refusal
cell_at None y = Err BadHeader
cell_at (Some x) None = Err BadHeader
cell_at (Some x) (Some y) =
    if is_coordinate x && is_coordinate y then Ok (record { y = y; x = x }) else Err OutOfRange

-- the cell that two numbers with a comma between them give
unfoldable pub position_of : List ℕ → Result Cell Refusal
position_of text =
    cell_at (integer_of (before_first (is_byte (byte ",")) text))
    (integer_of (after_first (is_byte (byte ",")) text))

-- the generation, if the number is one
unfoldable pub generation_at : Option ℕ → Result ℕ Refusal
generation_at None = Err BadGen
generation_at (Some number) = if nat_le number largest_generation then Ok number else Err BadGen

-- what a word says
unfoldable pub word_of : List ℕ → Result Word Refusal
word_of text =
    if begins_with (codes "Pos=") text
    then result_map_both (λ cell. Pos cell) (λ refusal. refusal) (position_of (drop 4 text))
    else (if begins_with (codes "Gen=") text
    then result_map_both (λ number. Gen number) (λ refusal. refusal)
    (generation_at (number_of (drop 4 text)))
    else Ok Other)
