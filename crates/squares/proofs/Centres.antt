-- Known squares, read at another level or as other cells.
use Rattle.std.proofs.Common.{◌≡◌, ℕ, List, subst}
use Rattle.plane.specs.Plane.{Plane}
use Rattle.squares.specs.declared.sq.Sq.{Sq}
use Rattle.plane.specs.Square.{IsSame}
use Rattle.squares.specs.Book.{Book, IsKnown, Shows, AreQuarters}
use Rattle.plane.proofs.Same.{same_trans}

pub lowered : (book : Book) (level level' : ℕ) (plane : Plane) (quarters : List Sq) → level ≡ level' → AreQuarters book level plane quarters → AreQuarters book level' plane quarters
lowered book level level' plane quarters e h = subst (λ n. AreQuarters book n plane quarters) e h

-- a square that shows the joined cells shows what these are
pub shows_as : (book : Book) (level level' : ℕ) (plane plane' : Plane) (sq : Sq) → level ≡ level' → IsSame plane plane' → Shows book level plane sq → Shows book level' plane' sq
shows_as book level level' plane plane' sq e same s = record {
  known = subst (λ n. IsKnown book n sq) e s.known;
  cells = same_trans s.cells same;
}
