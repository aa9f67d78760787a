use Rattle.std.specs.Prelude.{ℕ, ℤ, pos, negsuc, ◌≤ℤ◌, List, [], ◌∷◌}
use Rattle.rule_text.specs.declared.neighbourhood.Neighbourhood.{Neighbourhood}
use Rattle.rule_text.specs.declared.neighbourhood.Neighbourhood.TheVariants.{Moore, VonNeumann, Hexagonal}
use Rattle.rule_text.specs.declared.neighbourhood.Offset.{Offset}

-- one step to the left or upwards
abbrev pub back : ℤ
back = negsuc 0

-- no step, and one step to the right or downwards
abbrev pub stay : ℤ
stay = pos 0

abbrev pub on : ℤ
on = pos 1

-- from a cell to a neighbour
abbrev pub step : ℤ → ℤ → Offset
step right down = record { right = right; down = down }

-- from a cell to each of its neighbours, row by row
unfoldable pub offsets : Neighbourhood → List Offset
offsets Moore =
    step back back ∷ step stay back ∷ step on back ∷ step back stay ∷ step on stay ∷ step back on
    ∷ step stay on ∷ step on on ∷ []
offsets VonNeumann = step stay back ∷ step back stay ∷ step on stay ∷ step stay on ∷ []
offsets Hexagonal =
    step back back ∷ step stay back ∷ step back stay ∷ step on stay ∷ step stay on ∷ step on on ∷ []

-- how many neighbours a cell has
abbrev pub neighbour_count : Neighbourhood → ℕ
neighbour_count Moore = 8
neighbour_count VonNeumann = 4
neighbour_count Hexagonal = 6

-- at most one step in each direction
pub record IsStep (offset : Offset) : Type 0 where
  pub left : back ≤ℤ offset.right
  pub right : offset.right ≤ℤ on
  pub up : back ≤ℤ offset.down
  pub down : offset.down ≤ℤ on
