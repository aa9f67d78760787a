-- Leaves, squares of eight by eight cells as the bits of words: a byte is a row.
use Rattle.std.specs.Prelude.{ℕ, ◌+◌, ◌*◌, Bool, List, slice_index}
use Rattle.plane.specs.Plane.{Plane}
use Rattle.plane.specs.Square.{bit, bits_plane, joined}

-- the cell at a place of one of a word's bytes
abbrev pub cell_at : ℕ → ℕ → ℕ → Bool
cell_at word byte place = bit word (8 * byte + place)

-- the cells of the square that four leaves make: upper left, upper right, lower left and lower
-- right
abbrev pub leaves_plane : List ℕ → Plane
leaves_plane leaves =
    joined 8 (bits_plane (slice_index leaves 0)) (bits_plane (slice_index leaves 1))
    (bits_plane (slice_index leaves 2)) (bits_plane (slice_index leaves 3))
