use Rattle.std.specs.Prelude.{◌+◌, List}
use Rattle.squares.specs.Book.{nth}
use Rattle.squares.specs.declared.node.Quarters.{Quarters}
use Rattle.squares.specs.declared.sq.Sq.{Sq}

-- the level of the square that four squares make, and their numbers
abbrev pub quarters_of : List Sq → Quarters
quarters_of squares = record {
  level = (nth squares 0).level + 1;
  nw = (nth squares 0).num;
  ne = (nth squares 1).num;
  sw = (nth squares 2).num;
  se = (nth squares 3).num;
}
