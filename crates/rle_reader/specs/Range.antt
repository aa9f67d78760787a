-- The range of coordinates, with the end behind the last.
use Rattle.std.specs.Prelude.{ℤ, neg_ℤ, ◌≤ℤ◌}
use Rattle.plane.specs.Limits.{coordinate_limit}

-- the number is in the range of coordinates, or is the one after the last
pub record IsWithinReach (number : ℤ) : Type 0 where
  pub low : neg_ℤ coordinate_limit ≤ℤ number
  pub high : number ≤ℤ coordinate_limit
