-- The squares that a macrocell file lists: those of side 8 and more in a square, without empty ones
-- and repeats.
use Rattle.std.specs.Prelude.{ℕ, zero, suc, ◌+◌, ◌-◌, ◌^◌, ◌==◌, ◌&&◌, Bool, if◌then◌else◌, List, [], ◌∷◌, ◌++◌}
use Rattle.std.specs.Cmp.Lexicographic.{pointwise}
use Rattle.std.specs.List.{list_any, position_or_len}
use Rattle.plane.specs.Listing.{is_at}
use Rattle.plane.specs.Plane.{Plane}
use Rattle.plane.specs.Square.{cut}
use Rattle.plane.specs.Window.{square_cells}
use Rattle.plane.specs.declared.cell.Cell.{Cell}
use Rattle.pattern_writers.specs.LeafText.{is_nothing}

-- the cells of a square of side 2^level, which is moved to the corner (0,0)
pub record Square : Type 0 where
  pub level : ℕ
  pub plane : Plane

-- its live cells, in the order of reading
abbrev pub live_cells : Square → List Cell
live_cells square = square_cells (2 ^ square.level) square.plane

-- whether it has no live cell
abbrev pub is_dead : Square → Bool
is_dead square = is_nothing (live_cells square)

abbrev pub is_same_cell : Cell → Cell → Bool
is_same_cell a b = is_at a.x a.y b

-- whether two squares have the same level and the same cells
unfoldable pub is_same_square : Square → Square → Bool
is_same_square a b = a.level == b.level && pointwise is_same_cell (live_cells a) (live_cells b)

-- the quarters of a square, each of this level
abbrev pub nw_of : ℕ → Plane → Square
nw_of level plane = record { level = level; plane = cut (2 ^ level) 0 0 plane }

abbrev pub ne_of : ℕ → Plane → Square
ne_of level plane = record { level = level; plane = cut (2 ^ level) (2 ^ level) 0 plane }

abbrev pub sw_of : ℕ → Plane → Square
sw_of level plane = record { level = level; plane = cut (2 ^ level) 0 (2 ^ level) plane }

abbrev pub se_of : ℕ → Plane → Square
se_of level plane = record { level = level; plane = cut (2 ^ level) (2 ^ level) (2 ^ level) plane }

-- the square, unless it is empty
abbrev pub if_alive : Square → List Square
if_alive square = if is_dead square then [] else (square ∷ [])

-- the nonempty aligned squares of side 8 and more in a square of level 3 and so many more, each
-- after its quarters
unfoldable pub squares_in : ℕ → Plane → List Square
squares_in zero plane = if_alive (record { level = 3; plane = plane })
squares_in (suc more) plane =
    squares_in more (nw_of (more + 3) plane).plane
    ++ squares_in more (ne_of (more + 3) plane).plane
    ++ squares_in more (sw_of (more + 3) plane).plane
    ++ squares_in more (se_of (more + 3) plane).plane
    ++ if_alive (record { level = suc more + 3; plane = plane })

-- whether a square is among these
abbrev pub is_listed : List Square → Square → Bool
is_listed listed square = list_any (is_same_square square) listed

-- these squares and those that follow them, where each is struck that is the same as an earlier one
unfoldable pub with_new : List Square → List Square → List Square
with_new listed [] = listed
with_new listed (square ∷ squares) =
    with_new (if is_listed listed square then listed else (listed ++ square ∷ [])) squares

-- the squares of a square of this level that stay, in order
abbrev pub listed_in : ℕ → Plane → List Square
listed_in level plane = with_new [] (squares_in (level - 3) plane)

-- the number of a square among these, which are counted from 1; that of an empty square is 0
unfoldable pub number_in : List Square → Square → ℕ
number_in listed square =
    if is_dead square then 0 else (position_or_len (is_same_square square) listed + 1)
