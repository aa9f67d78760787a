-- The divisors of a number.
use Rattle.std.specs.Prelude.{◌≡◌, ℕ, ◌*◌, ◌<◌, ◌≤◌}

abbrev pub IsDivisor : ℕ → ℕ → Type 0
IsDivisor whole n = (times : ℕ) × (whole ≡ times * n)

-- the least divisor behind a number
pub record IsNextDivisor (whole tried n : ℕ) : Type 0 where
  pub divides : IsDivisor whole n
  pub behind : tried < n
  pub least : (m : ℕ) → tried < m → m < n → IsDivisor whole m → ⊥

-- the greatest divisor that is at most so much
pub record IsLastUpTo (whole most n : ℕ) : Type 0 where
  pub divides : IsDivisor whole n
  pub some : 1 ≤ n
  pub within : n ≤ most
  pub greatest : (m : ℕ) → n < m → m ≤ most → IsDivisor whole m → ⊥
