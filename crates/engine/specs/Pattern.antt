-- The live cells of patterns.
use Rattle.std.specs.Prelude.{◌≡◌, []}
use Rattle.plane.specs.Plane.{Plane}
use Rattle.node_table.specs.declared.still.Still.{Still}
use Rattle.squares.specs.declared.sq.Sq.{Sq}
use Rattle.universe.specs.Cells.{others_of, resting_cells, root_of, rooted_of, still_of}
use Rattle.engine.specs.declared.pattern.Pattern.{Pattern}

abbrev pub plane_of : Pattern → Plane
plane_of pattern = resting_cells pattern.resting

-- the words that hold them, and their square there
abbrev pub words_of : Pattern → Still
words_of pattern = still_of (rooted_of pattern.resting)

abbrev pub square_of : Pattern → Sq
square_of pattern = root_of (rooted_of pattern.resting)

-- it has no table but the words of its cells
abbrev pub StandsAlone : Pattern → Type 0
StandsAlone pattern = (others_of pattern.resting).tables.items ≡ []
