-- Squares and what becomes of them, several at a time.
use Rattle.std.specs.Prelude.{◌≡◌, ℕ, ◌+◌, ◌-◌, ◌<◌, ◌≤◌, ◌⊎◌, List, length}
use Rattle.plane.specs.Square.{future, centre_of}
use Rattle.squares.specs.Book.{Book, Shows, nth}
use Rattle.squares.specs.Overlaps.{AreMade}
use Rattle.squares.specs.declared.sq.Sq.{Sq}

-- the second square is the future of the first, which has this level
abbrev pub IsFutureAt : Book → ℕ → Sq → Sq → Type 0
IsFutureAt book level sq =
    Shows book (level - 1) (future book.rule book.exponent level (book.cells sq))

-- each of the second squares is the future of that of the first
pub record AreFutures (book : Book) (level : ℕ) (squares futures : List Sq) : Type 0 where
  pub each : (k : ℕ) → k < length squares →
      IsFutureAt book level (nth squares k) (nth futures k)

-- each of the second squares is that of the first, or its future
pub record AreSameOrFutures (book : Book) (level : ℕ) (squares now : List Sq) : Type 0 where
  pub each : (k : ℕ) → k < length squares →
      (nth now k ≡ nth squares k) ⊎ IsFutureAt book level (nth squares k) (nth now k)

-- of nine squares in three rows, the centres of the four that neighbours make
abbrev pub AreCentres : Book → ℕ → List Sq → List Sq → Type 0
AreCentres book level = AreMade (centre_of (level + 1)) book level level

-- their futures where there is time for them, else their centres
pub record AreFinished (book : Book) (level : ℕ) (nine four : List Sq) : Type 0 where
  pub futures : level ≤ book.exponent →
      AreMade (future book.rule book.exponent (level + 1)) book level level nine four
  pub four_centres : book.exponent < level → AreCentres book level nine four
