-- What a rule makes of cells with each number of live neighbours.
use Rattle.std.specs.Prelude.{ℕ, Bool, true, false}
use Rattle.rule_text.specs.CountRule.{CountRule, lives}
use Rattle.leaf_kernels.specs.Choices.{differ}

-- whether a live cell becomes what a dead one doesn't
abbrev pub is_changed : CountRule → ℕ → Bool
is_changed rule count = differ (lives rule false count) (lives rule true count)
