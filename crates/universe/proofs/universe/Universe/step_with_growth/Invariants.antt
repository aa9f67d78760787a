use Rattle.std.proofs.Common.{◌≡◌}
use Rattle.std.specs.Prelude.{Some}
use Rattle.table_growth.specs.Retries.{retries_after}
use Rattle.universe.specs.Later.{IsAttempt, IsFullAtLimit}
use Rattle.table_growth.specs.declared.retries.Retry.TheVariants.{CellsAlone}
use Rattle.universe.proofs.universe.Universe.step_with_growth.Given as goal

-- the last attempt, which is at the limit after the last retry
abbrev pub invariant-retries : goal.invariant-retries
invariant-retries g l = record { attempt : IsAttempt l.fn.self l.attempt; full : l.tried ≡ Some CellsAlone → IsFullAtLimit l.attempt }

abbrev pub decreases-retries : goal.decreases-retries
decreases-retries g l = retries_after l.plan.limit l.tried
