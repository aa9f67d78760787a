-- Leaf lines: the rows of a square of 8 by 8 cells, each ended by `$`.
use Rattle.std.specs.Prelude.{ℕ, ◌+◌, ◌*◌, ◌==◌, ◌&&◌, ◌||◌, nat_le, Bool, if◌then◌else◌, List, [], ◌∷◌, length, slice_index, slice_index_or, Option, None, Some}
use Rattle.std.specs.List.{list_all}
use Rattle.std.specs.Str.{byte}
use Rattle.text_lines.specs.Bytes.{is_byte, trimmed_end, ended_parts}

-- a dead cell or a live one
abbrev pub is_cell : ℕ → Bool
is_cell other = other == byte "." || other == byte "*"

-- at most 8 cells
abbrev pub is_row : List ℕ → Bool
is_row row = nat_le (length row) 8 && list_all is_cell row

-- the rows of a text, from the top
abbrev pub rows_of : List ℕ → List (List ℕ)
rows_of text = ended_parts (is_byte (byte "$")) text

-- at most 8 rows
abbrev pub are_rows : List (List ℕ) → Bool
are_rows rows = nat_le (length rows) 8 && list_all is_row rows

-- 1 for a live cell
abbrev pub cell_bit : ℕ → ℕ
cell_bit cell = if cell == byte "*" then 1 else 0

-- bit x is the cell in column x; cells that are left out are dead
unfoldable pub row_bits : List ℕ → ℕ
row_bits [] = 0
row_bits (cell ∷ cells) = cell_bit cell + 2 * row_bits cells

-- bit 8y + x is the cell in column x of row y; rows that are left out are dead
unfoldable pub leaf_bits : List (List ℕ) → ℕ
leaf_bits [] = 0
leaf_bits (row ∷ rows) = row_bits row + 256 * leaf_bits rows

-- the bits of a leaf with the rows of this text
unfoldable pub bits_of : List ℕ → Option ℕ
bits_of text = if are_rows (rows_of text) then Some (leaf_bits (rows_of text)) else None

-- the bits of the leaf that a line writes, which may have blanks at its end
unfoldable pub leaf_of : List ℕ → Option ℕ
leaf_of line = bits_of (trimmed_end line)

-- the cell in this column of this row is live; cells and rows that are left out are dead
abbrev pub is_live_at : List (List ℕ) → ℕ → ℕ → Bool
is_live_at rows x y = slice_index (slice_index_or rows y []) x == byte "*"
