-- The numbers of generations that a search tries.
use Rattle.std.specs.Prelude.{ℕ, ◌<◌, ◌≤◌}
use Rattle.period_search.specs.Divisors.{IsDivisor}
use Rattle.period_search.specs.declared.candidates.Candidates.{Candidates}
use Rattle.period_search.specs.declared.candidates.Candidates.TheVariants.{UpTo, DivisorsOf}

-- the number is one of those that are tried
abbrev pub IsCandidate : Candidates → ℕ → Type 0
IsCandidate (UpTo most) n = (1 ≤ n) × (n ≤ most)
IsCandidate (DivisorsOf whole) n = IsDivisor whole n

-- the greatest of them, and 0 where there are none
abbrev pub last_of : Candidates → ℕ
last_of (UpTo most) = most
last_of (DivisorsOf whole) = whole

-- the number whose divisors are tried is not 0
abbrev pub AreSome : Candidates → Type 0
AreSome (UpTo most) = Unit {0}
AreSome (DivisorsOf whole) = 1 ≤ whole

-- the least of them behind a number
pub record IsNext (candidates : Candidates) (tried n : ℕ) : Type 0 where
  pub one : IsCandidate candidates n
  pub behind : tried < n
  pub least : (m : ℕ) → tried < m → m < n → IsCandidate candidates m → ⊥

-- none of them is greater
abbrev pub IsNoneBehind : Candidates → ℕ → Type 0
IsNoneBehind candidates tried = (n : ℕ) → tried < n → IsCandidate candidates n → ⊥
