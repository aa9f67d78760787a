-- The numbers of generations that are tried, one after the other.
use Rattle.std.proofs.Common.{◌≡◌, ℕ, zero, suc, ◌*◌, ◌<◌, ◌≤◌, arith}
use Rattle.std.proofs.Math.Nat.{zero-mul, suc-mul}
use Rattle.period_search.specs.Candidates.{IsNext, IsNoneBehind}
use Rattle.period_search.specs.Divisors.{IsNextDivisor}
use Rattle.period_search.specs.declared.candidates.Candidates.TheVariants.{DivisorsOf}

pub next_of_divisors : (whole tried n : ℕ) → IsNextDivisor whole tried n → IsNext (DivisorsOf whole) tried n
next_of_divisors whole tried n is = record { one = is.divides; behind = is.behind; least = is.least }

-- no divisor of a number is greater
none_greater : (whole n times : ℕ) → 1 ≤ whole → whole < n → whole ≡ times * n → ⊥
none_greater whole n zero some less is = absurd (omega (arith, zero-mul n, is, some))
none_greater whole n (suc times) some less is = absurd (omega (arith, suc-mul times n, is, less))

pub none_behind : (whole tried : ℕ) → 1 ≤ whole → whole ≤ tried → IsNoneBehind (DivisorsOf whole) tried
none_behind whole tried some all n more (times, is) = none_greater whole n times some (omega (arith, all, more)) is
