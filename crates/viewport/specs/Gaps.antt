-- How far live cells lie from the sides of squares.
use Rattle.std.specs.Prelude.{◌≡◌, ℕ, ◌^◌, ℤ, pos, ◌-ℤ◌, ◌≤ℤ◌, true, IsTrue, List, [], ◌∷◌, Option, None, Some, min}
use Rattle.plane.specs.Plane.{Plane}
use Rattle.plane.specs.Square.{IsSame, empty}
use Rattle.squares.specs.Book.{Book, nth}
use Rattle.squares.specs.declared.sq.Sq.{Sq}
use Rattle.squares.specs.Noted.{Noted, value_of}
use Rattle.viewport.specs.declared.gaps.Side.{Side}
use Rattle.viewport.specs.declared.gaps.Side.TheVariants.{Left, Right, Top, Bottom}

-- how far the cell (x, y) lies from a side of a square of this size: 0 in the column or the row at
-- that side
abbrev pub distance_from : Side → ℕ → ℤ → ℤ → ℤ
distance_from Left size x y = x
distance_from Right size x y = (pos size -ℤ pos 1) -ℤ x
distance_from Top size x y = y
distance_from Bottom size x y = (pos size -ℤ pos 1) -ℤ y

-- some live cell lies so far from the side
pub record HasCellAt (side : Side) (size : ℕ) (plane : Plane) (distance : ℤ) : Type 0 where
  pub x : ℤ
  pub y : ℤ
  pub live : plane x y ≡ true
  pub there : distance_from side size x y ≡ distance

-- no live cell lies nearer to the side than this, and some live cell lies so far from it
pub record IsNearest (side : Side) (size : ℕ) (plane : Plane) (gap : ℕ) : Type 0 where
  pub clear : (x y : ℤ) → plane x y ≡ true → pos gap ≤ℤ distance_from side size x y
  pub reached : HasCellAt side size plane (pos gap)

-- how many columns or rows lie between the side and the first live cell, if any cell is live
abbrev pub IsGap : Side → ℕ → Plane → Option ℕ → Type 0
IsGap side size plane None = IsSame plane empty
IsGap side size plane (Some gap) = IsNearest side size plane gap

-- the square is known, and this is its gap at the side
abbrev pub IsKnownGap : Book → Side → Sq → Option ℕ → Type 0
IsKnownGap book side sq gap = IsTrue (book.knows sq) × IsGap side (2 ^ sq.level) (book.cells sq) gap

-- each gap that is kept is that of its square, which is known
pub record AreGaps (book : Book) (side : Side) (gaps : Noted (Option ℕ)) : Type 0 where
  pub gap : (sq : Sq) (gap : Option ℕ) → value_of gaps sq ≡ Some gap → IsKnownGap book side sq gap

-- the lesser of two gaps
abbrev pub lesser : Option ℕ → Option ℕ → Option ℕ
lesser None b = b
lesser (Some a) None = Some a
lesser (Some a) (Some b) = Some (min a b)

-- the quarters of a square, the two at this side first
abbrev pub near_first : Side → List Sq → List Sq
near_first Left quarters = nth quarters 0 ∷ nth quarters 2 ∷ nth quarters 1 ∷ nth quarters 3 ∷ []
near_first Right quarters = nth quarters 1 ∷ nth quarters 3 ∷ nth quarters 0 ∷ nth quarters 2 ∷ []
near_first Top quarters = nth quarters 0 ∷ nth quarters 1 ∷ nth quarters 2 ∷ nth quarters 3 ∷ []
near_first Bottom quarters = nth quarters 2 ∷ nth quarters 3 ∷ nth quarters 0 ∷ nth quarters 1 ∷ []
