-- A rule as one number.
use Rattle.std.specs.Prelude.{ℕ, ◌+◌, ◌*◌, ◌^◌}
use Rattle.std.specs.List.{sum_by}
use Rattle.rule_text.specs.CountRule.{CountRule}
use Rattle.rule_text.specs.declared.neighbourhood.Neighbourhood.{Neighbourhood}
use Rattle.rule_text.specs.declared.neighbourhood.Neighbourhood.TheVariants.{Moore, VonNeumann, Hexagonal}

-- the neighbourhoods, numbered
abbrev pub number : Neighbourhood → ℕ
number Moore = 0
number VonNeumann = 1
number Hexagonal = 2

-- bit d for a digit d of birth, bit 9 + d for a digit d of survival, and the neighbourhood from bit
-- 18 on
abbrev pub code_of : CountRule → ℕ
code_of rule =
    sum_by (λ digit. 2 ^ digit) rule.birth
    + sum_by (λ digit. 2 ^ (9 + digit)) rule.survival
    + 2 ^ 18 * number rule.neighbourhood
