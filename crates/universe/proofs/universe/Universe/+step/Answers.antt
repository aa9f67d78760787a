use Rattle.std.proofs.Common.{◌-◌, ◌^◌, ◌<◌, ◌≤◌, ◌∙◌, subst, arith, pow_mono}
use Rattle.std.proofs.lemmas.Nat.{one_shl, pow_pos}
use Rattle.universe.specs.Advances.{IsAdvance}
use Rattle.universe.specs.Later.{IsAttempt, IsFullAtLimit, IsSameUniverse}
use Rattle.universe.specs.declared.attempts.Attempt.{Attempt}
use Rattle.universe.proofs.Advancing.{advance_again, by_count, halves_on, stuck_below, stuck_in_half}
use Rattle.universe.proofs.Halves.{ok_then, two_halves}
use Rattle.universe.proofs.Onward.{held_on, may_step, none_later, same_universe, still_same, stuck_at_once, step_at_exponent}
use Rattle.universe.proofs.universe.Universe.+step.Goals as goal

pub step-step_with_growth-requires-after_bounds : goal.step-step_with_growth-requires-after_bounds
step-step_with_growth-requires-after_bounds g t c κs within = may_step c.args.exponent c.requires.exponent c.requires.held c.in_ok-there.ensures

pub step-step_by_halves-requires-in-Full-2-clause-held : goal.step-step_by_halves-requires-in-Full-2-clause-held
step-step_by_halves-requires-in-Full-2-clause-held g t c κs within =
    let full = subst (λ (a : Attempt). IsAttempt c.in_ok-there.there a) c.in-Full.is c.in_ok-later.ensures.ok in
    let steps = 2 ^ c.args.exponent in
    held_on steps 0 steps c.requires.held (none_later (still_same c.in_ok-there.ensures.same full.same)) (omega arith)

pub step-returns-in-Done : goal.step-returns-in-Done
step-returns-in-Done g t c =
    let made = subst (λ (a : Attempt). IsAttempt c.in_ok-there.there a) c.in-Done.is c.in_ok-later.ensures.ok in
    step_at_exponent c.args.exponent c.in_ok-there.ensures made

pub step-returns-in-Full : goal.step-returns-in-Full
step-returns-in-Full g t c =
    let at_exponent = c.in_ok-there.ensures in
    let full = subst (λ (a : Attempt). IsAttempt c.in_ok-there.there a) c.in-Full.is c.in_ok-later.ensures.ok in
    let exhausted = subst IsFullAtLimit c.in-Full.is c.in_ok-later.ensures.full in
    stuck_at_once (2 ^ c.args.exponent) (pow_pos c.args.exponent) (still_same at_exponent.same full.same) (full.exponent ∙ at_exponent.exponent ∙ c.if-exponent-eq0.true) exhausted

pub step-returns-in-Full-2 : goal.step-returns-in-Full-2
step-returns-in-Full-2 g t c =
    let full = subst (λ (a : Attempt). IsAttempt c.in_ok-there.there a) c.in-Full.is c.in_ok-later.ensures.ok in
    let same : IsSameUniverse c.args.self c.in-Full.there = still_same c.in_ok-there.ensures.same full.same in
    ok_then _ _ c.step_by_halves-in-Full-2.result (λ advance is. advance_again (2 ^ c.args.exponent) advance same is) c.step_by_halves-in-Full-2.ensures

pub step_by_halves-step-requires-clause-held : goal.step_by_halves-step-requires-clause-held
step_by_halves-step-requires-clause-held g t c κs within =
    let whole = two_halves c.args.exponent (omega (arith, c.requires.exponent.0)) in
    held_on (2 ^ c.args.exponent) 0 (2 ^ (c.args.exponent - 1)) c.requires.held (none_later (same_universe c.args.self)) (omega (arith, whole))

pub step_by_halves-step-requires-2-clause-held : goal.step_by_halves-step-requires-2-clause-held
step_by_halves-step-requires-2-clause-held g t c κs within =
    let half = 2 ^ (c.args.exponent - 1) in
    let whole = two_halves c.args.exponent (omega (arith, c.requires.exponent.0)) in
    let first = subst (IsAdvance c.args.self half) c.in-Done.is c.in_ok-stuck.ensures in
    held_on (2 ^ c.args.exponent) half half c.requires.held first (omega (arith, whole))

pub step_by_halves-returns : goal.step_by_halves-returns
step_by_halves-returns g t c =
    let first = subst (IsAdvance c.args.self (2 ^ (c.args.exponent - 1))) c.in-Done.is c.in_ok-stuck.ensures in
    let low : c.args.exponent - 1 < 64 = omega (arith, c.requires.exponent.1) in
    by_count c.args.self (2 ^ c.args.exponent) _ (2 ^ (c.args.exponent - 1)) c.in_ok-second.second c.with_earlier.result c.with_earlier.ensures (one_shl (c.args.exponent - 1) 64 low)
    (halves_on c.args.exponent c.in_ok-second.second (omega (arith, c.requires.exponent.0)) first c.in_ok-second.ensures)

pub step_by_halves-with_earlier-requires : goal.step_by_halves-with_earlier-requires
step_by_halves-with_earlier-requires g t c =
    let half = c.args.exponent - 1 in
    let low : half < 63 = omega (arith, c.requires.exponent.1) in
    let power = one_shl half 64 (omega (arith, low)) in
    let below = stuck_below c.in-Done.middle (2 ^ half) c.in_ok-second.second c.in_ok-second.ensures in
    let small : 2 ^ half ≤ 2 ^ 62 = pow_mono {i = half} {j = 62} (omega (arith, low)) in
    omega (arith, power, below, small)

pub step_by_halves-returns-in_default : goal.step_by_halves-returns-in_default
step_by_halves-returns-in_default g t c =
    let some = c.requires.exponent.0 in
    stuck_in_half c.args.self c.args.exponent c.in_ok-stuck.stuck (omega (arith, some)) c.in_default.not-Done c.in_ok-stuck.ensures
