-- What a number shows. A block of rank 0 is a square of level 3. A block of rank r + 1 is two
-- blocks of rank r: beside one another where r is even, below one another where r is odd. So a
-- square of level k has rank 2 (k - 3), and two of them side by side, a half, have the next rank.
use Rattle.std.specs.Prelude.{◌≢◌, ℕ, zero, suc, ◌+◌, ◌-◌, ◌*◌, ◌/◌, ◌%◌, ◌^◌, ◌==◌, if◌then◌else◌}
use Rattle.plane.specs.declared.cell.TheConstants.{HIGHEST_LEVEL}
use Rattle.plane.specs.Plane.{Plane}
use Rattle.plane.specs.Square.{IsSame, empty, bits_plane}
use Rattle.plane.specs.Block.{beside, below}
use Rattle.table_core.specs.declared.shape.Kind.TheVariants.{Leaf, Pair}
use Rattle.table_core.specs.Layout.{IsSlot, first_part, second_part}

-- the word at each index
abbrev pub Words : Type 0
Words = ℕ → ℕ

abbrev pub square_rank : ℕ → ℕ
square_rank level = 2 * (level - 3)

-- the rank of the largest squares, those of the highest level
abbrev pub largest_rank : ℕ
largest_rank = square_rank HIGHEST_LEVEL

abbrev pub width : ℕ → ℕ
width rank = 2 ^ ((rank + 1) / 2 + 3)

abbrev pub height : ℕ → ℕ
height rank = 2 ^ (rank / 2 + 3)

-- two blocks of this rank as one
abbrev pub paired : ℕ → Plane → Plane → Plane
paired rank one two =
    if rank % 2 == 0 then beside (width rank) one two else below (height rank) one two

-- the number stands for a block of this rank: 0 for the empty one, the index of a nonzero leaf word
-- for a square of level 3, the index of a nonzero pair word for the two blocks that its parts stand
-- for
abbrev pub IsBlock : ℕ → Words → ℕ → ℕ → Type 0
IsBlock bits words zero zero = Unit {0}
IsBlock bits words zero (suc i) = IsSlot bits Leaf (suc i) × (words (suc i) ≢ 0)
IsBlock bits words (suc rank) zero = Unit {0}
IsBlock bits words (suc rank) (suc i) =
    IsSlot bits Pair (suc i) × (words (suc i) ≢ 0)
    × IsBlock bits words rank (first_part (words (suc i)))
    × IsBlock bits words rank (second_part (words (suc i)))

-- the cells of the block that a number stands for
abbrev pub cells_of : Words → ℕ → ℕ → Plane
cells_of words zero zero = empty
cells_of words zero (suc i) = bits_plane (words (suc i))
cells_of words (suc rank) zero = empty
cells_of words (suc rank) (suc i) =
    paired rank (cells_of words rank (first_part (words (suc i))))
    (cells_of words rank (second_part (words (suc i))))

-- the number shows the block of this rank with these cells
pub record ShowsBlock (bits : ℕ) (words : Words) (rank number : ℕ) (plane : Plane) : Type 0 where
  pub stands : IsBlock bits words rank number
  pub cells : IsSame (cells_of words rank number) plane
