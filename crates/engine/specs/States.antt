-- The live cells of a session, at work or at rest.
use Rattle.std.specs.Prelude.{◌≡◌, ℕ, Bool, true, false}
use Rattle.rule_text.specs.CountRule.{CountRule}
use Rattle.plane.specs.Plane.{Plane}
use Rattle.plane.specs.Square.{IsSame, empty}
use Rattle.node_table.specs.Openings.{SaysAll}
use Rattle.universe.specs.Cells.{known_by, limit_of, live_cells, others_of, resting_limit, resting_rule, rule_of, shown_by}
use Rattle.engine.specs.Pattern.{plane_of}
use Rattle.engine.specs.declared.state.State.{State}
use Rattle.engine.specs.declared.state.State.TheVariants.{AtRest, AtWork, Lost}

-- the live cells; none where they are lost
abbrev pub state_cells : State → Plane
state_cells (AtWork universe) = live_cells universe
state_cells (AtRest pattern) = plane_of pattern
state_cells Lost = empty

-- how many pair slots its tables may have together
abbrev pub state_limit : State → ℕ
state_limit (AtWork universe) = limit_of universe
state_limit (AtRest pattern) = resting_limit pattern.resting
state_limit Lost = 0

abbrev pub is_there : State → Bool
is_there (AtWork universe) = true
is_there (AtRest pattern) = true
is_there Lost = false

abbrev pub is_at_rest : State → Bool
is_at_rest (AtRest pattern) = true
is_at_rest other = false

-- the rule of its tables; the given one where they are lost
abbrev pub rule_in : CountRule → State → CountRule
rule_in rule (AtWork universe) = rule_of universe
rule_in rule (AtRest pattern) = resting_rule pattern.resting
rule_in rule Lost = rule

-- its tables are for this rule
abbrev pub IsByRule : CountRule → State → Type 0
IsByRule rule state = rule_in rule state ≡ rule

-- the same cells under the same rule and limit, or lost as before
pub record IsSameState (old new : State) : Type 0 where
  pub cells : IsSame (state_cells new) (state_cells old)
  pub rule : (rule : CountRule) → IsByRule rule old → IsByRule rule new
  pub limit : state_limit new ≡ state_limit old
  pub there : is_there new ≡ is_there old

-- at rest it says all squares and results that its table knew at work, at work again its table knows
-- all that it said at rest, and it has its other tables; else it is as it was
abbrev pub KeepsResults : State → State → Type 0
KeepsResults (AtWork universe) (AtRest pattern) =
    SaysAll (known_by universe) (shown_by pattern.resting)
    × (others_of pattern.resting ≡ universe.others)
KeepsResults (AtRest pattern) (AtWork universe) =
    SaysAll (shown_by pattern.resting) (known_by universe)
    × (universe.others ≡ others_of pattern.resting)
KeepsResults old new = new ≡ old
