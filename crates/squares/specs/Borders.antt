-- The border of a square.
use Rattle.std.specs.Prelude.{List, [], ◌∷◌}
use Rattle.squares.specs.Book.{nth}
use Rattle.squares.specs.declared.sq.Sq.{Sq}

-- of the quarters of a square's quarters, those that lie at its border
abbrev pub border_of : (nw ne sw se : List Sq) → List Sq
border_of nw ne sw se =
    nth nw 0 ∷ nth nw 1 ∷ nth nw 2 ∷ nth ne 0 ∷ nth ne 1 ∷ nth ne 3 ∷ nth sw 0 ∷ nth sw 2 ∷ nth sw 3
    ∷ nth se 1 ∷ nth se 2 ∷ nth se 3 ∷ []
