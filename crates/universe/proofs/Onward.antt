-- Universes some generations on, one after the other.
use Rattle.std.proofs.Common.{◌≡◌, ℕ, ◌+◌, ◌^◌, ◌<◌, ◌≤◌, sym, ◌∙◌, refl, subst, arith}
use Rattle.std.specs.Prelude.{Result, Ok, Err, IfOk}
use Rattle.rule_text.specs.CountRule.{CountRule}
use Rattle.plane.specs.Centred.{Holds}
use Rattle.plane.specs.Plane.{Plane, after}
use Rattle.plane.specs.Square.{IsSame}
use Rattle.plane.proofs.Parts.{after_same}
use Rattle.plane.proofs.Same.{same_refl, same_sym, same_trans}
use Rattle.universe.specs.Cells.{exponent_of, live_cells, rule_of}
use Rattle.universe.specs.StaysWithinRoot.{StaysWithinRoot}
use Rattle.universe.specs.Later.{IsAttempt, IsExhausted, IsLater, IsSameUniverse, IsStuckAt, ReachesExponent, IsAtExponent, MayStep}
use Rattle.universe.specs.declared.attempts.Attempt.{Attempt}
use Rattle.universe.specs.declared.attempts.Attempt.TheVariants.{Done, Full}
use Rattle.universe.specs.declared.universe.Universe.{Universe}
use Rattle.universe.proofs.Later.{after_step, held_later}
use Rattle.universe.proofs.Roots.{held_same}

pub same_universe : (universe : Universe) → IsSameUniverse universe universe
same_universe universe = record { cells = same_refl (live_cells universe); rule = refl; limit = refl }

pub still_same : {first second third : Universe} → IsSameUniverse first second → IsSameUniverse second third → IsSameUniverse first third
still_same before now = record { cells = same_trans now.cells before.cells; rule = now.rule ∙ before.rule; limit = now.limit ∙ before.limit }

-- the same cells are those after no generation
pub none_later : {first second : Universe} → IsSameUniverse first second → IsLater first 0 second
none_later same = record { cells = same.cells; rule = same.rule; limit = same.limit }

pub later_on : {first second third : Universe} → (done more : ℕ) → IsLater first done second → IsLater second more third → IsLater first (done + more) third
later_on {first} {second} {third} done more before now = record {
  cells = after_step (rule_of first) (live_cells first) (live_cells second) (live_cells third) done more before.cells
      (subst (λ (r : CountRule). IsSame (live_cells third) (after r (live_cells second) more)) before.rule now.cells);
  rule = now.rule ∙ before.rule;
  limit = now.limit ∙ before.limit;
}

pub same_then : {first second third : Universe} → (generations : ℕ) → IsSameUniverse first second → IsLater second generations third → IsLater first generations third
same_then {first} {second} {third} generations same now = record {
  cells = same_trans (subst (λ (r : CountRule). IsSame (live_cells third) (after r (live_cells second) generations)) same.rule now.cells)
      (after_same (rule_of first) (live_cells second) (live_cells first) generations same.cells);
  rule = now.rule ∙ same.rule;
  limit = now.limit ∙ same.limit;
}

-- so many generations more stay in the range
pub held_on : {first second : Universe} → (generations done more : ℕ) → StaysWithinRoot (rule_of first) (live_cells first) generations → IsLater first done second → done + more ≤ generations →
    StaysWithinRoot (rule_of second) (live_cells second) more
held_on {first} {second} generations done more held before within = λ n less.
    subst (λ (r : CountRule). Holds 63 (after r (live_cells second) n)) (sym before.rule)
    (held_later (rule_of first) (live_cells first) (live_cells second) generations done n held before.cells (omega (arith, within, less)))

-- ---- at the same table, or at another of its exponent

pub same_exponent : (universe : Universe) → IsAtExponent (exponent_of universe) universe universe
same_exponent universe = record { same = same_universe universe; exponent = refl }

pub exponent_on : {first second third : Universe} {wanted : ℕ} → IsAtExponent wanted first second → IsAtExponent wanted second third → IsAtExponent wanted first third
exponent_on before now = record { same = still_same before.same now.same; exponent = now.exponent }

pub held_again : (rule : CountRule) (plane other : Plane) (generations : ℕ) → IsSame other plane → Holds 63 (after rule plane generations) → Holds 63 (after rule other generations)
held_again rule plane other generations same held =
    held_same 63 (after rule plane generations) (after rule other generations) (same_sym (after_same rule other plane generations same)) held

-- a step that may be taken may be begun again
pub step_again : {first second : Universe} → MayStep first → IsAtExponent (exponent_of first) first second → MayStep second
step_again {first} {second} may at_exponent = record {
  exponent = subst (λ (e : ℕ). e ≤ 62) (sym at_exponent.exponent) may.exponent;
  held = subst (λ (e : ℕ). Holds 63 (after (rule_of second) (live_cells second) (2 ^ e))) (sym at_exponent.exponent)
      (subst (λ (r : CountRule). Holds 63 (after r (live_cells second) (2 ^ exponent_of first))) (sym at_exponent.same.rule)
      (held_again (rule_of first) (live_cells first) (live_cells second) (2 ^ exponent_of first) at_exponent.same.cells may.held));
}

-- a step at the table of its exponent may be taken
pub may_step : {first second : Universe} → (exponent : ℕ) → exponent ≤ 62 → StaysWithinRoot (rule_of first) (live_cells first) (2 ^ exponent) → IsAtExponent exponent first second → MayStep second
may_step {first} {second} exponent low held at_exponent =
    let steps = 2 ^ exponent in
    let whole : 0 + steps ≤ steps = omega arith in
    let last : steps ≤ steps = omega arith in
    record {
      exponent = subst (λ (e : ℕ). e ≤ 62) (sym at_exponent.exponent) low;
      held = subst (λ (e : ℕ). Holds 63 (after (rule_of second) (live_cells second) (2 ^ e))) (sym at_exponent.exponent)
          (held_on {first = first} {second = second} steps 0 steps held (none_later at_exponent.same) whole steps last);
    }

-- and is the step
pub step_at_exponent : {first second third : Universe} → (exponent : ℕ) → IsAtExponent exponent first second → IsLater second (2 ^ exponent_of second) third → IsLater first (2 ^ exponent) third
step_at_exponent {first} {second} {third} exponent at_exponent later =
    same_then (2 ^ exponent) at_exponent.same (subst (λ (e : ℕ). IsLater second (2 ^ e) third) at_exponent.exponent later)

-- what comes of a step that was begun again comes of the step
pub attempt_again : {first second : Universe} → (attempt : Attempt) → IsAtExponent (exponent_of first) first second → IsAttempt second attempt → IsAttempt first attempt
attempt_again {first} {second} (Done later) at_exponent is =
    same_then (2 ^ exponent_of first) at_exponent.same (subst (λ (e : ℕ). IsLater second (2 ^ e) later) at_exponent.exponent is)
attempt_again {first} {second} (Full same) at_exponent is = exponent_on at_exponent (subst (λ (e : ℕ). IsAtExponent e second same) at_exponent.exponent is)

-- what comes of going to an exponent again comes of going there
pub reaches_again : {first second : Universe} → (exponent wanted : ℕ) (attempt : Attempt) → IsSameUniverse first second → exponent ≡ wanted → ReachesExponent exponent second attempt → ReachesExponent wanted first attempt
reaches_again exponent wanted (Done at_exponent) same is turn = record { same = still_same same turn.same; exponent = turn.exponent ∙ is }
reaches_again exponent wanted (Full still) same is turn = still_same same turn

-- where a universe is stuck, each is of which it is a later one
pub stuck_further : {first second there : Universe} → (generations done more further : ℕ) → IsLater first done second → done + more ≤ generations → IsStuckAt second more there further →
    IsStuckAt first generations there (done + further)
stuck_further {first} {second} {there} generations done more further later within stuck = record {
  before = let before = stuck.before in omega (arith, before, within);
  later = later_on {first = first} {second = second} {third = there} done further later stuck.later;
  one = stuck.one;
  exhausted = stuck.exhausted;
}

pub stuck_at_once : {first second : Universe} → (generations : ℕ) → 0 < generations → IsSameUniverse first second → exponent_of second ≡ 0 → IsExhausted second → IsStuckAt first generations second 0
stuck_at_once {first} {second} generations some same one exhausted = record { before = some; later = none_later same; one = one; exhausted = exhausted }

pub result_again : {E : Type 0} {first second : Universe} → (exponent wanted : ℕ) (r : Result Attempt E) → IfOk r (ReachesExponent exponent second) → IsSameUniverse first second → exponent ≡ wanted → IfOk r (ReachesExponent wanted first)
result_again exponent wanted (Ok attempt) turn same is = reaches_again exponent wanted attempt same is turn
result_again exponent wanted (Err refusal) turn same is = tt
