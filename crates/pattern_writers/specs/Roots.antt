-- The square around (0,0) that a macrocell file has as its last.
use Rattle.std.specs.Prelude.{◌≤◌}
use Rattle.plane.specs.Centred.{Holds, IsSmallestLevel}
use Rattle.plane.specs.Plane.{Plane}
use Rattle.squares.specs.Book.{Book, AreQuarters}
use Rattle.pattern_writers.specs.McText.{from_corner}
use Rattle.pattern_writers.specs.declared.mc_text.root.Root.{Root}

-- the quarters of a square around (0,0) that has all the plane's cells
pub record HasRoot (book : Book) (plane : Plane) (root : Root) : Type 0 where
  pub least : 4 ≤ root.level
  pub holds : Holds root.level plane
  pub quarters : AreQuarters book root.level (from_corner root.level plane) root.quarters

-- the quarters of the smallest such square of a level of at least 4
pub record IsRoot (book : Book) (plane : Plane) (root : Root) : Type 0 where
  pub smallest : IsSmallestLevel root.level plane
  pub quarters : AreQuarters book root.level (from_corner root.level plane) root.quarters
