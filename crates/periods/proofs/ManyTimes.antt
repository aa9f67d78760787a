-- Multiples of periods, and of the least one.
use Rattle.std.proofs.Common.{◌≡◌, ℕ, zero, suc, ◌+◌, ◌*◌, ◌/◌, ◌%◌, ◌<◌, ◌≤◌, ℤ, pos, ◌-ℤ◌, ◌*ℤ◌, arith, refl, ⊎_elim, mul-pos, zero-mul, eq-zero-or-pos, div-add-mod'}
use Rattle.std.proofs.lemmas.Nat.{mod_below}
use Rattle.rule_text.specs.CountRule.{CountRule}
use Rattle.plane.specs.Plane.{Plane}
use Rattle.periods.specs.Laws.{ExactlyMultiples, LeastDivides, Multiples, NoPeriodNoDivisor}
use Rattle.periods.specs.Periods.{IsPeriod, IsLeastPeriod}
use Rattle.periods.proofs.Periods.{one_displacement_lem}
use Rattle.periods.proofs.Returns.{returns_at, returns_rest, returns_times}

pub multiples_lem : Multiples
multiples_lem rule plane n times a b some is = record {
  some = mul-pos {m = times} {n = n} some is.some;
  same = returns_times rule plane n times a b is.same;
}

-- the same period, by numbers that are equal
period_at : (rule : CountRule) (plane : Plane) (n m : ℕ) (a b c d : ℤ) → n ≡ m → a ≡ c → b ≡ d → IsPeriod rule plane m c d → IsPeriod rule plane n a b
period_at rule plane n m a b c d generations across down is = record {
  some = omega (arith, is.some);
  same = returns_at rule plane n m a b c d generations across down is.same;
}

-- what a period leaves after some of the least is a period, too
rest_period : (rule : CountRule) (plane : Plane) (least times rest : ℕ) (a b c d : ℤ) → 0 < rest →
    IsPeriod rule plane least a b → IsPeriod rule plane (times * least + rest) c d → IsPeriod rule plane rest (c -ℤ pos times *ℤ a) (d -ℤ pos times *ℤ b)
rest_period rule plane least times rest a b c d some is whole = record {
  some = some;
  same = returns_rest rule plane (times * least) rest (pos times *ℤ a) (pos times *ℤ b) c d (returns_times rule plane least times a b is.same) whole.same;
}

-- nothing is left of a period after the least, as often as it goes
no_rest : (rule : CountRule) (plane : Plane) (least times rest : ℕ) (a b c d : ℤ) → rest < least →
    IsLeastPeriod rule plane least a b → IsPeriod rule plane (times * least + rest) c d → rest ≡ 0
no_rest rule plane least times rest a b c d fewer is whole =
    ⊎_elim (λ none. none)
    (λ some.
    let reached : least ≤ rest = is.least rest (c -ℤ pos times *ℤ a, d -ℤ pos times *ℤ b, rest_period rule plane least times rest a b c d some is.period whole) in
    absurd (omega (arith, reached, fewer)))
    (eq-zero-or-pos rest)

pub least_divides_lem : LeastDivides
least_divides_lem rule plane least n a b is has =
    let divided : n / least * least + n % least ≡ n = div-add-mod' n least in
    let none : n % least ≡ 0 =
    no_rest rule plane least (n / least) (n % least) a b has.0 has.1 (mod_below n least is.period.some) is
    (period_at rule plane (n / least * least + n % least) n has.0 has.1 has.0 has.1 divided refl refl has.2) in
    (n / least, omega (arith, divided, none))

-- what is some times as much is at least once as much
once : (n times least : ℕ) → 1 ≤ n → n ≡ times * least → 1 ≤ times
once n zero least some is = absurd (omega (arith, some, is, zero-mul least))
once n (suc times) least some is = omega arith

pub exactly_multiples_lem : ExactlyMultiples
exactly_multiples_lem rule plane cells least n a b c d listing some is = (
  λ period.
      let divides = least_divides_lem rule plane least n a b is (c, d, period) in
      let times_some : 1 ≤ divides.0 = once n divides.0 least period.some divides.1 in
      let multiple : IsPeriod rule plane (divides.0 * least) (pos divides.0 *ℤ a) (pos divides.0 *ℤ b) = multiples_lem rule plane least divides.0 a b times_some is.period in
      let moves = one_displacement_lem rule plane cells n c d (pos divides.0 *ℤ a) (pos divides.0 *ℤ b) listing some period
      (period_at rule plane n (divides.0 * least) _ _ _ _ divides.1 refl refl multiple) in
      (divides.0, times_some, divides.1, moves.0, moves.1),
  λ all. period_at rule plane n (all.0 * least) c d (pos all.0 *ℤ a) (pos all.0 *ℤ b) all.2 all.3 all.4 (multiples_lem rule plane least all.0 a b all.1 is.period),
)

pub no_period_no_divisor_lem : NoPeriodNoDivisor
no_period_no_divisor_lem rule plane n some none divisor times is has =
    none (
      pos times *ℤ has.0,
      pos times *ℤ has.1,
      period_at rule plane n (times * divisor) _ _ _ _ is refl refl (multiples_lem rule plane divisor times has.0 has.1 (once n times divisor some is) has.2),
    )
