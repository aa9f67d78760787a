-- What the store of a book's squares told it beyond squares.
use Rattle.std.specs.Prelude.{ℕ, List}
use Rattle.plane.specs.declared.cell.Cell.{Cell}

-- that a word stands at an index; that a number shows the block of a rank with these live cells; that
-- the square with a level and a number has the result with another number
pub data Fact : Type 0 where
  word_fact : (index word : ℕ) → Fact
  block_fact : (rank number : ℕ) (live : List Cell) → Fact
  result_fact : (level square future : ℕ) → Fact
