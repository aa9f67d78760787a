-- The squares of the nodes of a macrocell file.
use Rattle.std.specs.Prelude.{◌≡◌, ℕ, zero, suc, List, [], ◌∷◌, map, slice_index}
use Rattle.std.specs.List.{AllByRecursion}
use Rattle.macrocell_reader.specs.Nodes.{level_of}
use Rattle.macrocell_reader.specs.Planes.{planes_of}
use Rattle.macrocell_reader.specs.declared.node.Node.{Node}
use Rattle.plane.specs.Plane.{Plane}
use Rattle.squares.specs.Book.{Book, IsKnown, nth, numbered}
use Rattle.squares.specs.declared.sq.Sq.{Sq}

abbrev pub levels_of : List Sq → List ℕ
levels_of squares = map (λ (sq : Sq). sq.level) squares

-- what the squares of a book show
abbrev pub shown_planes : Book → List Sq → List Plane
shown_planes book squares = map book.cells squares

abbrev pub AreKnownAtLevels : Book → List Sq → Type 0
AreKnownAtLevels book squares = AllByRecursion (λ (sq : Sq). IsKnown book sq.level sq) squares

-- these squares of a book show these nodes, one by one
pub record ShowNodes (book : Book) (nodes : List Node) (squares : List Sq) : Type 0 where
  pub known : AreKnownAtLevels book squares
  pub levels : levels_of squares ≡ map level_of nodes
  pub planes : shown_planes book squares ≡ planes_of nodes

-- the square with this number among the earlier ones; number 0 is the empty one of the level
abbrev pub numbered_square : List Sq → ℕ → ℕ → Sq
numbered_square squares level zero = numbered level 0
numbered_square squares level (suc before) = nth squares before

-- the four squares with these numbers
abbrev pub quarters_of : List Sq → ℕ → List ℕ → List Sq
quarters_of squares level numbers =
    numbered_square squares level (slice_index numbers 0)
    ∷ numbered_square squares level (slice_index numbers 1)
    ∷ numbered_square squares level (slice_index numbers 2)
    ∷ numbered_square squares level (slice_index numbers 3)
    ∷ []
