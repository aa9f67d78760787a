-- Which of the cells beside a cell, above and below it, are its neighbours.
use Rattle.std.specs.Prelude.{Bool, true, false}
use Rattle.rule_text.specs.declared.neighbourhood.Neighbourhood.{Neighbourhood}
use Rattle.rule_text.specs.declared.neighbourhood.Neighbourhood.TheVariants.{Moore, VonNeumann, Hexagonal}
use Rattle.leaf_kernels.specs.Choices.{all_cells}
use Rattle.leaf_kernels.specs.Rows.{HasCells}
use Rattle.leaf_kernels.specs.declared.masks.Diagonals.{Diagonals}

-- whether the upper left and the lower right cell are neighbours, and the upper right and the lower
-- left one
abbrev pub has_falling : Neighbourhood → Bool
has_falling Moore = true
has_falling VonNeumann = false
has_falling Hexagonal = true

abbrev pub has_rising : Neighbourhood → Bool
has_rising Moore = true
has_rising VonNeumann = false
has_rising Hexagonal = false

-- for all cells of a vector, which of the cells beside a cell, above and below it, count
pub record AreDiagonals (neighbourhood : Neighbourhood) (diagonals : Diagonals) : Type 0 where
  pub falls : HasCells diagonals.falling (all_cells (has_falling neighbourhood))
  pub rises : HasCells diagonals.rising (all_cells (has_rising neighbourhood))
