-- What a pattern file means, in whichever format it is written.
use Rattle.std.specs.Prelude.{ℕ, List, Option, Result}
use Rattle.std.specs.Result.{result_map_both}
use Rattle.plane.specs.Plane.{Plane}
use Rattle.plane.specs.declared.fault.Fault.{Fault}

-- the generation, the rule's text and the place to which its faults belong, the kept comments and
-- the live cells
pub record Meaning : Type 0 where
  pub generation : ℕ
  pub rule : Option (List ℕ)
  pub rule_place : ℕ
  pub comments : List (List ℕ)
  pub live : Plane

-- what was read in one format, seen as a pattern
abbrev pub seen_as : {A : Type 0} → (A → Meaning) → Result A Fault → Result Meaning Fault
seen_as meaning read = result_map_both meaning (λ fault. fault) read
