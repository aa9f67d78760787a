-- What is tried where a table was full for a step.
use Rattle.std.specs.Prelude.{ℕ, ◌+◌, ◌-◌, ◌^◌, ◌<◌, ◌≤◌, Option, None, Some}
use Rattle.table_core.specs.declared.shape.Shape.{Shape}
use Rattle.table_growth.specs.declared.retries.Retry.{Retry}
use Rattle.table_growth.specs.declared.retries.Retry.TheVariants.{Swept, Enlarged, Restarted, Collected, CellsAlone}

-- the new table isn't larger than the largest
abbrev pub IsWithinLimit : Shape → Retry → Type 0
IsWithinLimit limit (Enlarged shape) = shape.bits ≤ limit.bits
IsWithinLimit limit (Restarted shape) = shape.bits ≤ limit.bits
IsWithinLimit limit Swept = Unit {0}
IsWithinLimit limit (Collected times) = Unit {0}
IsWithinLimit limit CellsAlone = Unit {0}

-- how many collections of one step there may be
abbrev pub most_collections : ℕ
most_collections = 2 ^ 20

-- how many tries may come after this one, at most
abbrev pub retries_after : Shape → Option Retry → ℕ
retries_after limit None = most_collections + limit.bits + 4
retries_after limit (Some Swept) = most_collections + limit.bits + 3
retries_after limit (Some (Enlarged shape)) = most_collections + (limit.bits - shape.bits) + 2
retries_after limit (Some (Restarted shape)) = most_collections + (limit.bits - shape.bits) + 2
retries_after limit (Some (Collected times)) = most_collections - times + 1
retries_after limit (Some CellsAlone) = 0

-- so fewer may come after the next one
abbrev pub LeavesFewer : Shape → Option Retry → Retry → Type 0
LeavesFewer limit tried next = retries_after limit (Some next) < retries_after limit tried
