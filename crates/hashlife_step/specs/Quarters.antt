-- The quarters of several squares.
use Rattle.std.specs.Prelude.{ℕ, ◌<◌, List, [], length, slice_index_or}
use Rattle.squares.specs.Book.{Book, AreQuarters, nth}
use Rattle.squares.specs.declared.sq.Sq.{Sq}

-- those of one of the squares
abbrev pub quarters_of : List (List Sq) → ℕ → List Sq
quarters_of quarters k = slice_index_or quarters k []

-- the newer book shows the quarters of each of the squares, which the older one has at this level
pub record AreRead (old new : Book) (level : ℕ) (squares : List Sq)
    (quarters : List (List Sq)) : Type 0 where
  pub each : (k : ℕ) → k < length squares →
      AreQuarters new level (old.cells (nth squares k)) (quarters_of quarters k)
