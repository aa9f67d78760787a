use Rattle.std.proofs.Common.{◌+◌, ◌^◌, ℕ, get_or, refl, sym, ◌∙◌, ap, subst, arith, rules}
use Rattle.std.specs.Prelude.{sum_by}
use Rattle.std.proofs.lemmas.Bool.{false≢true}
use Rattle.std.proofs.lemmas.List.Sums.{sum_by_more}
use Rattle.std.proofs.lemmas.Nat.{one_shl}
use Rattle.rule_text.specs.CountRule.{IsRule}
use Rattle.plane.specs.Square.{IsSame, empty}
use Rattle.universe.specs.Advances.{IsAdvance}
use Rattle.universe.specs.Cells.{live_cells, rule_of}
use Rattle.universe.specs.Later.{IsLater}
use Rattle.universe.proofs.Advancing.{by_count, stuck_below, stuck_on_part}
use Rattle.universe.proofs.Later.{all_done, blank, empty_stays, low_exponent, next_within}
use Rattle.universe.proofs.Onward.{held_on, later_on, none_later, same_universe}
use Rattle.universe.proofs.universe.Universe.advance.Goals as goal

pub returns-then-is_empty-clause-ok : goal.returns-then-is_empty-clause-ok
returns-then-is_empty-clause-ok g c =
    let rule : IsRule (rule_of c.args.self) = search rules in
    record {
      cells = empty_stays (rule_of c.args.self) rule.no_birth_on_zero (live_cells c.args.self) c.args.generations (c.if-is_empty.ensures.0 refl);
      rule = refl;
      limit = refl;
    }

pub step-requires-clause-exponent : goal.step-requires-clause-exponent
step-requires-clause-exponent g c κs lives =
    let steps = c.as_slice-next-items.result.now in
    let next = get_or steps c.steps.next-index blank in
    let sum = ap (sum_by (λ step. 2 ^ step.exponent)) c.as_slice-next-items.ensures.value ∙ c.steps_of-plan.ensures in
    let within = next_within steps c.args.generations c.steps.done c.steps.next-index sum c.steps.invariant.counted c.steps-test.true in
    let some : IsSame (live_cells c.args.self) empty → ⊥ = λ none. false≢true (c.if-is_empty.ensures.1 none) in
    low_exponent next.exponent c.steps.done c.args.generations within (c.requires.short some)

pub step-requires-clause-held : goal.step-requires-clause-held
step-requires-clause-held g c κs lives =
    let steps = c.as_slice-next-items.result.now in
    let next = get_or steps c.steps.next-index blank in
    let sum = ap (sum_by (λ step. 2 ^ step.exponent)) c.as_slice-next-items.ensures.value ∙ c.steps_of-plan.ensures in
    let within = next_within steps c.args.generations c.steps.done c.steps.next-index sum c.steps.invariant.counted c.steps-test.true in
    held_on c.args.generations c.steps.done (2 ^ next.exponent) c.requires.held c.steps.invariant.later within

pub returns-in_default-clause-ok : goal.returns-in_default-clause-ok
returns-in_default-clause-ok g c =
    let steps = c.as_slice-next-items.result.now in
    let next = get_or steps c.steps.next-index blank in
    let sum = ap (sum_by (λ step. 2 ^ step.exponent)) c.as_slice-next-items.ensures.value ∙ c.steps_of-plan.ensures in
    let within = next_within steps c.args.generations c.steps.done c.steps.next-index sum c.steps.invariant.counted c.steps-test.true in
    by_count c.args.self c.args.generations c.steps.done c.steps.done c.in_ok-stuck.stuck c.with_earlier.result c.with_earlier.ensures refl
    (stuck_on_part c.args.generations c.steps.done (2 ^ next.exponent) c.in_ok-stuck.stuck c.in_default.not-Done c.steps.invariant.later within c.in_ok-stuck.ensures)

pub overflow_shl-done : goal.overflow_shl-done
overflow_shl-done g c =
    let steps = c.as_slice-next-items.result.now in
    let next = get_or steps c.steps.next-index blank in
    let sum = ap (sum_by (λ step. 2 ^ step.exponent)) c.as_slice-next-items.ensures.value ∙ c.steps_of-plan.ensures in
    let within = next_within steps c.args.generations c.steps.done c.steps.next-index sum c.steps.invariant.counted c.steps-test.true in
    let some : IsSame (live_cells c.args.self) empty → ⊥ = λ none. false≢true (c.if-is_empty.ensures.1 none) in
    let low = low_exponent next.exponent c.steps.done c.args.generations within (c.requires.short some) in
    omega (arith, low)

pub steps-preserved : goal.steps-preserved
steps-preserved g c =
    let steps = c.as_slice-next-items.result.now in
    let next = get_or steps c.steps.next-index blank in
    let sum = ap (sum_by (λ step. 2 ^ step.exponent)) c.as_slice-next-items.ensures.value ∙ c.steps_of-plan.ensures in
    let within = next_within steps c.args.generations c.steps.done c.steps.next-index sum c.steps.invariant.counted c.steps-test.true in
    let some : IsSame (live_cells c.args.self) empty → ⊥ = λ none. false≢true (c.if-is_empty.ensures.1 none) in
    let low = low_exponent next.exponent c.steps.done c.args.generations within (c.requires.short some) in
    let power = one_shl next.exponent 64 (omega (arith, low)) in
    let later = subst (IsAdvance c.steps.universe (2 ^ next.exponent)) c.in-Done.is c.in_ok-stuck.ensures in
    let more = sum_by_more (λ step. 2 ^ step.exponent) steps c.steps.next-index blank c.steps-test.true in
    let counted = c.steps.invariant.counted in
    record {
      later = subst (λ (n : ℕ). IsLater c.args.self (c.steps.done + n) c.in-Done.later) (sym power) (later_on c.steps.done (2 ^ next.exponent) c.steps.invariant.later later);
      counted = omega (arith, power, more, counted);
    }

pub returns-in_err-stuck-clause-no_step : goal.returns-in_err-stuck-clause-no_step
returns-in_err-stuck-clause-no_step g c = λ none. absurd (false≢true (c.if-is_empty.ensures.1 none))

pub with_earlier-requires : goal.with_earlier-requires
with_earlier-requires g c =
    let steps = c.as_slice-next-items.result.now in
    let next = get_or steps c.steps.next-index blank in
    let sum = ap (sum_by (λ step. 2 ^ step.exponent)) c.as_slice-next-items.ensures.value ∙ c.steps_of-plan.ensures in
    let within = next_within steps c.args.generations c.steps.done c.steps.next-index sum c.steps.invariant.counted c.steps-test.true in
    let below = stuck_below c.steps.universe (2 ^ next.exponent) c.in_ok-stuck.stuck c.in_ok-stuck.ensures in
    omega (arith, within, below)

pub returns-in_default-clause-no_step : goal.returns-in_default-clause-no_step
returns-in_default-clause-no_step g c = λ none. absurd (false≢true (c.if-is_empty.ensures.1 none))

pub overflow_add-done : goal.overflow_add-done
overflow_add-done g c =
    let steps = c.as_slice-next-items.result.now in
    let next = get_or steps c.steps.next-index blank in
    let sum = ap (sum_by (λ step. 2 ^ step.exponent)) c.as_slice-next-items.ensures.value ∙ c.steps_of-plan.ensures in
    let within = next_within steps c.args.generations c.steps.done c.steps.next-index sum c.steps.invariant.counted c.steps-test.true in
    let some : IsSame (live_cells c.args.self) empty → ⊥ = λ none. false≢true (c.if-is_empty.ensures.1 none) in
    let low = low_exponent next.exponent c.steps.done c.args.generations within (c.requires.short some) in
    let power = one_shl next.exponent 64 (omega (arith, low)) in
    omega (arith, power, within)

pub returns-clause-ok : goal.returns-clause-ok
returns-clause-ok g c =
    let steps = c.as_slice-next-items.result.now in
    let sum = ap (sum_by (λ step. 2 ^ step.exponent)) c.as_slice-next-items.ensures.value ∙ c.steps_of-plan.ensures in
    subst (λ (n : ℕ). IsLater c.args.self n c.steps.universe) (all_done steps c.args.generations c.steps.done c.steps.next-index sum c.steps.invariant.counted c.steps-test.false) c.steps.invariant.later

pub returns-clause-no_step : goal.returns-clause-no_step
returns-clause-no_step g c = λ none. absurd (false≢true (c.if-is_empty.ensures.1 none))

pub steps-init : goal.steps-init
steps-init g c = record { later = none_later (same_universe c.args.self); counted = refl }
