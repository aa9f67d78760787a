-- How far coordinates, generations and live cells go.
use Rattle.std.specs.Prelude.{ℕ, ◌^◌, ℤ, pos}

-- the coordinate behind the last one; the first one is as far away on the other side of 0
abbrev pub coordinate_limit : ℤ
coordinate_limit = pos (2 ^ 62)

-- the last generation that a run may reach
abbrev pub largest_generation : ℕ
largest_generation = 2 ^ 63

-- the most live cells of an RLE file
abbrev pub most_live_cells : ℕ
most_live_cells = 2 ^ 28
