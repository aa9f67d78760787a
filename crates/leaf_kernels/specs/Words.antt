-- Words of eight bytes, and vectors of words.
use Rattle.std.specs.Prelude.{◌≡◌, ℕ, ◌<◌, List, [], slice_index, slice_index_or}
use Rattle.plane.specs.Leaves.{cell_at}

-- a lane of one of some vectors
abbrev pub lane_at : List (List ℕ) → ℕ → ℕ → ℕ
lane_at vectors n lane = slice_index (slice_index_or vectors n []) lane

-- eight words of which each has one byte of each of eight others, in turn
abbrev pub AreTransposed : List ℕ → List ℕ → Type 0
AreTransposed words transposed =
    (column place row : ℕ) → column < 8 → place < 8 → row < 8 →
    cell_at (slice_index transposed row) column place ≡ cell_at (slice_index words column) row place
