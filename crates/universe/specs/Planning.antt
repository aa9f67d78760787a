-- What is planned to be copied out of an open table.
use Rattle.std.specs.Prelude.{ℕ, ◌≤◌, ◌^◌}
use Rattle.node_sweep.specs.Blank.{AreBlank}
use Rattle.table_core.specs.declared.key.Key.{Key}
use Rattle.universe.specs.declared.planned.Planned.{Planned}

-- the words are blank ones under the rule and the exponent of this head, of 2^most pair slots or
-- fewer
pub record IsPlanned (key : Key) (most : ℕ) (planned : Planned) : Type 0 where
  pub blank : AreBlank key (2 ^ planned.shape.bits) planned.blank
  pub within : planned.shape.bits ≤ most
