-- Where a table has no room for a word.
use Rattle.std.specs.Prelude.{◌≢◌, ℕ, suc, ◌+◌, ◌-◌, ◌*◌, ◌<◌, List, [], ◌∷◌}
use Rattle.plane.specs.Plane.{Plane}
use Rattle.plane.specs.Square.{subsquare}
use Rattle.squares.specs.declared.sq.Sq.{Sq}
use Rattle.squares.specs.Book.{AreQuarters, nth}
use Rattle.table_core.specs.declared.knowledge.Knowledge.{Knowledge}
use Rattle.table_core.specs.declared.shape.Kind.{Kind}
use Rattle.table_core.specs.declared.shape.Kind.TheVariants.{Pair}
use Rattle.table_core.specs.Layout.{pair_of}
use Rattle.table_core.specs.Blocks.{paired, square_rank}
use Rattle.table_core.specs.Knowledge.{KnowsBlock}
use Rattle.table_core.specs.FullWays.{KnowsFullWay}
use Rattle.node_table.specs.declared.desk.Desk.{Desk}
use Rattle.node_table.specs.declared.table.NodeTable.{NodeTable}
use Rattle.node_table.specs.Books.{known_cells}
use Rattle.node_table.specs.Desks.{book_at}

abbrev pub known_by : Desk → Knowledge
known_by desk = desk.seat.me.0.known

-- the desk has seen another word in each of the 256 slots of this word's way
pub record HasNoRoom (table : NodeTable) (desk : Desk) (kind : Kind) (word : ℕ) : Type 0 where
  pub some : word ≢ 0
  pub way : KnowsFullWay table.key.shape.bits (known_by desk) kind word

-- the number shows two squares that were known, side by side
abbrev pub IsHalf : Knowledge → Knowledge → Sq → Sq → ℕ → Type 0
IsHalf old new left right number =
    KnowsBlock new (suc (square_rank left.level)) number
    (paired (square_rank left.level) (known_cells old left) (known_cells old right))

-- the word of two numbers of squares
abbrev pub word_of : Sq → Sq → ℕ
word_of left right = pair_of left.num.0 right.num.0

-- a word that a square with these quarters needs: that of its upper half, of its lower half, or of
-- both halves
pub data Needs (old new : Knowledge) (quarters : List Sq) : ℕ → Type 0 where
  upper_half : Needs old new quarters (word_of (nth quarters 0) (nth quarters 1))
  lower_half : Needs old new quarters (word_of (nth quarters 2) (nth quarters 3))
  both_halves : (upper lower : ℕ) → IsHalf old new (nth quarters 0) (nth quarters 1) upper →
      IsHalf old new (nth quarters 2) (nth quarters 3) lower →
      Needs old new quarters (pair_of upper lower)

-- the desk has no room for a word that a square with these quarters needs
pub record HasNoRoomForQuad (table : NodeTable) (old new : Desk) (quarters : List Sq) : Type 0 where
  pub word : ℕ
  pub needed : Needs (known_by old) (known_by new) quarters word
  pub room : HasNoRoom table new Pair word

-- the desk has no room for one of the nine overlapping squares of a square of this level with these
-- cells: it knows the quarters of that one
pub record HasNoRoomForSubsquare (table : NodeTable) (desk : Desk) (level : ℕ)
    (plane : Plane) : Type 0 where
  pub row : ℕ
  pub column : ℕ
  pub above : row < 3
  pub left : column < 3
  pub quarters : List Sq
  pub known : AreQuarters (book_at table desk) (level - 1)
      (subsquare level row column plane) quarters
  pub room : HasNoRoomForQuad table desk desk quarters

-- four neighbours among three rows of three squares: the upper left one stands in this row and
-- column
abbrev pub neighbouring_squares : List Sq → ℕ → ℕ → List Sq
neighbouring_squares nine row column =
    let first = 3 * row + column in nth nine first ∷ nth nine (first + 1) ∷ nth nine (first + 3) ∷ nth nine (first + 4) ∷ []

-- the desk has no room for the square of four neighbours among three rows of three squares
pub record HasNoRoomForOverlap (table : NodeTable) (desk : Desk) (nine : List Sq) : Type 0 where
  pub row : ℕ
  pub column : ℕ
  pub above : row < 2
  pub left : column < 2
  pub room : HasNoRoomForQuad table desk desk (neighbouring_squares nine row column)
