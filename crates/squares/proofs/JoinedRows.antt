-- The row of the squares that two rows of squares make.
use Rattle.std.proofs.Common.{◌≡◌, ℕ, ◌+◌, ◌*◌, ◌<◌, ◌≤◌, List, [], ◌∷◌, ◌++◌, length, arith, refl, ⊎_elim}
use Rattle.std.specs.List.{AllByRecursion}
use Rattle.std.proofs.lemmas.Bool.{cases_lt}
use Rattle.squares.specs.Book.{Book, IsKnown, Keeps, Shows, joined_squares, nth}
use Rattle.squares.specs.SquareRows.{AreQuartersIn, ArePassedBy, CanJoin, EndsBy, IsJoined}
use Rattle.squares.specs.declared.sq.Sq.{Sq}
use Rattle.squares.specs.declared.square_rows.Segment.{Segment}
use Rattle.squares.proofs.FourKnown.{joined_as}
use Rattle.squares.proofs.Kept.{known_kept, shows_kept}
use Rattle.squares.proofs.KnownQuarters.{from_four}
use Rattle.squares.proofs.RowColumns.{had_column, new_column}
use Rattle.squares.proofs.RowPairs.{ends_later}

pub passed_later : (upper lower : List Segment) (counts : List ℕ) (column column' : ℕ) → column ≤ column' → ArePassedBy upper lower counts column → ArePassedBy upper lower counts column'
passed_later upper lower counts column column' h passed = record {
  upper_has = passed.upper_has;
  lower_has = passed.lower_has;
  upper_ends = ends_later _ (2 * column) (2 * column') (omega (arith, h)) passed.upper_ends;
  lower_ends = ends_later _ (2 * column) (2 * column') (omega (arith, h)) passed.lower_ends;
}

-- the quarters are known in a later book, at the level of the first
pub quarters_known : (first old : Book) (quarters : List Sq) → length quarters ≡ 4 → Keeps first old → CanJoin first quarters → AllByRecursion (IsKnown old (nth quarters 0).level) quarters
quarters_known first old quarters size keeps can = from_four (IsKnown old (nth quarters 0).level) quarters size (known_kept keeps can.known.first) (known_kept keeps can.known.second) (known_kept keeps can.known.third) (known_kept keeps can.known.fourth)

pub joined_more : (first old new : Book) (upper lower row : List Segment) (s : Segment) (quarters : List Sq) (from end : ℕ) → Keeps first old → Keeps old new → CanJoin first quarters →
    Shows new ((nth quarters 0).level + 1) (joined_squares old (nth quarters 0).level quarters) s.sq → s.end ≡ end → ((other : ℕ) → from ≤ other → other < end → AreQuartersIn upper lower other quarters) →
    AllByRecursion (EndsBy from) row → IsJoined first old upper lower from row → IsJoined first new upper lower end (row ++ s ∷ [])
joined_more first old new upper lower row s quarters from end known later can shown is reads ends joined column high = ⊎_elim
    (λ before. let had = joined column before in record {
      quarters = had.quarters;
      read = had.read;
      square = had.square;
      there = had_column row s column had.square had.there;
      shown = shows_kept later had.shown;
    })
    (λ behind. record {
      quarters = quarters;
      read = reads column behind high;
      square = s.sq;
      there = new_column row s from column ends behind (omega (arith, is, high));
      shown = joined_as old new (nth quarters 0).level quarters _ _ _ _ s.sq refl (known.cells _ can.known.first.known) (known.cells _ can.known.second.known) (known.cells _ can.known.third.known) (known.cells _ can.known.fourth.known) shown;
    })
    (cases_lt column from)
