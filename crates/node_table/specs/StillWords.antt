-- Good words that nobody changes, and how they are read.
use Rattle.std.specs.Prelude.{ℕ, suc, List, slice_index}
use Rattle.plane.specs.Plane.{Plane}
use Rattle.plane.specs.Square.{IsSame}
use Rattle.squares.specs.Book.{Book}
use Rattle.table_core.specs.declared.key.Key.{Key}
use Rattle.table_core.specs.Blocks.{IsBlock, cells_of, paired}
use Rattle.table_core.specs.Good.{AreGoodWords}
use Rattle.node_table.specs.StillBooks.{book_of_words}

-- words that are good under this key
pub record GoodWords : Type 0 where
  pub key : Key
  pub words : List ℕ
  pub good : AreGoodWords key words

abbrev pub book_of_good : GoodWords → Book
book_of_good good = book_of_words good.key good.words

-- the number stands for a block of this rank
abbrev pub IsBlockOf : GoodWords → ℕ → ℕ → Type 0
IsBlockOf good rank number = IsBlock good.key.shape.bits (slice_index good.words) rank number

-- the cells of that block
abbrev pub cells_in : GoodWords → ℕ → ℕ → Plane
cells_in good rank number = cells_of (slice_index good.words) rank number

-- the number stands for two blocks
abbrev pub IsSomePair : GoodWords → ℕ → Type 0
IsSomePair good number = (rank : ℕ) × IsBlockOf good (suc rank) number

-- these two numbers stand for them
pub record AreParts (good : GoodWords) (number first second : ℕ) : Type 0 where
  pub one : (rank : ℕ) → IsBlockOf good (suc rank) number → IsBlockOf good rank first
  pub two : (rank : ℕ) → IsBlockOf good (suc rank) number → IsBlockOf good rank second
  pub cells : (rank : ℕ) → IsSame (cells_in good (suc rank) number)
      (paired rank (cells_in good rank first) (cells_in good rank second))
