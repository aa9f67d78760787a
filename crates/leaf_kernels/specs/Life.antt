-- The rule B3/S23.
use Rattle.std.specs.Prelude.{[], ◌∷◌}
use Rattle.rule_text.specs.CountRule.{CountRule}
use Rattle.rule_text.specs.declared.neighbourhood.Neighbourhood.TheVariants.{Moore}

-- three live neighbours of eight make a cell live, and two or three keep it alive
abbrev pub life : CountRule
life = record { neighbourhood = Moore; birth = 3 ∷ []; survival = 2 ∷ 3 ∷ [] }
