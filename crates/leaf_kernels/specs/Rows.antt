-- Squares of 16 by 16 and of 64 by 64 cells: as rows, and as leaves.
use Rattle.std.specs.Prelude.{◌≡◌, ℕ, ℤ, pos, ◌+◌, ◌/◌, ◌%◌, Bool, List, [], unsigned_abs, slice_index, slice_index_or, ◌&&◌, if◌then◌else◌, int_lt}
use Rattle.plane.specs.Leaves.{leaves_plane}
use Rattle.plane.specs.Plane.{Plane}
use Rattle.plane.specs.Square.{spans, bit, bits_plane, joined}

-- the cells of so many rows of so many cells, from the top: bit x of row y is the cell in column x,
-- and none outside is live
abbrev pub cells_of_rows : ℕ → ℕ → List ℕ → Plane
cells_of_rows width height rows x y =
    (spans width x && spans height y) && bit (slice_index rows (unsigned_abs y)) (unsigned_abs x)

-- the cells of sixteen rows of sixteen cells
abbrev pub sixteen_rows_plane : List ℕ → Plane
sixteen_rows_plane = cells_of_rows 16 16

-- the cells of four rows of sixty-four cells
abbrev pub four_rows_plane : List ℕ → Plane
four_rows_plane = cells_of_rows 64 4

-- whether this column and lane are among theirs
abbrev pub in_rows : ℤ → ℤ → Bool
in_rows x lane = spans 64 x && spans 4 lane

-- the rows have the cells of this plane
abbrev pub HasCells : List ℕ → Plane → Type 0
HasCells rows plane = (x lane : ℤ) → four_rows_plane rows x lane ≡ plane x lane

-- row y of the sixty-four in sixteen vectors: lane y / 16 of vector y % 16
abbrev pub row_at : List (List ℕ) → ℕ → ℕ
row_at vectors y = slice_index (slice_index_or vectors (y % 16) []) (y / 16)

-- the cells of sixty-four rows of sixty-four cells in sixteen vectors
abbrev pub rows_plane : List (List ℕ) → Plane
rows_plane vectors x y =
    (spans 64 x && spans 64 y) && bit (row_at vectors (unsigned_abs y)) (unsigned_abs x)

-- the rows in one lane of three vectors, one above the other: the middle one is row 0
abbrev pub lane_plane : List ℕ → List ℕ → List ℕ → ℤ → Plane
lane_plane above here below lane x y =
    if int_lt y (pos 0) then four_rows_plane above x lane else if int_lt (pos 0) y
    then four_rows_plane below x lane else four_rows_plane here x lane

-- the cells of four neighbours among sixteen leaves in four rows, of which the upper left one is
-- given
abbrev pub quarter_plane : List ℕ → ℕ → Plane
quarter_plane leaves k =
    joined 8 (bits_plane (slice_index leaves k)) (bits_plane (slice_index leaves (k + 1)))
    (bits_plane (slice_index leaves (k + 4))) (bits_plane (slice_index leaves (k + 5)))

-- the cells of the square that sixteen leaves make, row by row
abbrev pub sixteen_plane : List ℕ → Plane
sixteen_plane leaves =
    joined 16 (quarter_plane leaves 0) (quarter_plane leaves 2) (quarter_plane leaves 8)
    (quarter_plane leaves 10)

-- the cells of four squares of sixteen leaves, and of four squares of four leaves
abbrev pub four_sixteens_plane : List (List ℕ) → Plane
four_sixteens_plane quarters =
    joined 32 (sixteen_plane (slice_index_or quarters 0 []))
    (sixteen_plane (slice_index_or quarters 1 [])) (sixteen_plane (slice_index_or quarters 2 []))
    (sixteen_plane (slice_index_or quarters 3 []))

abbrev pub four_fours_plane : List (List ℕ) → Plane
four_fours_plane quarters =
    joined 16 (leaves_plane (slice_index_or quarters 0 []))
    (leaves_plane (slice_index_or quarters 1 [])) (leaves_plane (slice_index_or quarters 2 []))
    (leaves_plane (slice_index_or quarters 3 []))
