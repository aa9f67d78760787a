-- Numbers at the cells of rows: a vector of rows for each power of two.
use Rattle.std.specs.Prelude.{ℕ, ℤ, ◌+◌, ◌*◌, Bool, List, if◌then◌else◌}
use Rattle.leaf_kernels.specs.Rows.{four_rows_plane}
use Rattle.leaf_kernels.specs.declared.sum.Sum.{Sum}
use Rattle.leaf_kernels.specs.declared.count.Count.{Count}

-- 1 for a live cell, 0 for a dead one
abbrev pub number : Bool → ℕ
number alive = if alive then 1 else 0

-- the number of the cell in this column and row
abbrev pub number_at : List ℕ → ℤ → ℤ → ℕ
number_at rows x y = number (four_rows_plane rows x y)

-- the number that a sum has at a cell
abbrev pub sum_at : Sum → ℤ → ℤ → ℕ
sum_at sum x y = number_at sum.ones x y + 2 * number_at sum.twos x y

-- the number that a count has at a cell
abbrev pub count_at : Count → ℤ → ℤ → ℕ
count_at count x y =
    number_at count.ones x y + 2 * number_at count.twos x y + 4 * number_at count.fours x y + 8
    * number_at count.eights x y
